-- All that came was taken, since no more was asked for than is wanted.
use Rattle.std.proofs.Common.{◌≡◌, ℕ, ◌≤◌, List, length, take, subst, arith}
use Rattle.std.proofs.lemmas.List.{take_all, length-take-le}
use Rattle.oc_client.proofs.ChunkSteps.{stops_failed, stops_early, stops_starved}
use Rattle.oc_client.proofs.chunks.take_piece.Goals as goal
use Rattle.oc_chunked.specs.Stages.{wanted_at}
use Rattle.oc_chunked.specs.Taken.{Takes}

pub returns-in-Ok-feed-clause-takes : goal.returns-in-Ok-feed-clause-takes
returns-in-Ok-feed-clause-takes g c =
    let piece = take c.in-Ok.count c.read.new.buf in
    let fits : c.in-Ok.count ≤ length c.read.new.buf = omega (arith, c.in-Ok.ensures.within, c.read.auto.buf) in
    let few : length piece ≤ wanted_at c.args.unchunker.now = omega (arith, length-take-le c.in-Ok.count c.read.new.buf fits, c.in-Ok.ensures.within, c.requires.wanted) in
    let fed = c.in-Ok-feed.ensures.takes in
    let whole : take c.in-Ok-feed.field-0 piece ≡ piece = take_all c.in-Ok-feed.field-0 piece (omega (arith, c.in-Ok-feed.ensures.wanted few)) in (
      fed.0,
      fed.1,
      record {
        bytes = piece;
        came = c.in-Ok.ensures.gives;
        takes = subst (λ (b : List ℕ). Takes c.args.unchunker.now b fed.0 c.feed.new.self) whole fed.2;
      },
    )

pub returns-in_default-clause-stops : goal.returns-in_default-clause-stops
returns-in_default-clause-stops g c =
    stops_failed g.S.Source.gives g.S.Source.fails g.S.Source.ended c.args.source.now c.read.new.self c.args.unchunker.now c.in_default.ensures.fails

pub returns-then-count-eq0-clause-stops : goal.returns-then-count-eq0-clause-stops
returns-then-count-eq0-clause-stops g c =
    let nothing = subst (λ n. g.S.Source.gives c.args.source.now (take n c.read.new.buf) c.read.new.self) c.if-count-eq0.true c.in-Ok.ensures.gives in
    stops_early g.S.Source.gives g.S.Source.fails g.S.Source.ended c.args.source.now c.read.new.self c.args.unchunker.now nothing (c.in-Ok.ensures.end c.if-count-eq0.true c.requires.some)

pub returns-in-Err-Memory-clause-stops : goal.returns-in-Err-Memory-clause-stops
returns-in-Err-Memory-clause-stops g c =
    stops_starved g.S.Source.gives g.S.Source.fails g.S.Source.ended c.args.source.now c.read.new.self c.args.unchunker.now (take c.in-Ok.count c.read.new.buf) c.in-Ok.ensures.gives
