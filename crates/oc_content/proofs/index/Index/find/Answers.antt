use Rattle.std.proofs.Common.{◌≡◌, List, [], get_or, drop, sym, subst, ◌∙◌, arith}
use Rattle.std.proofs.lemmas.List.{take_rest}
use Rattle.oc_base.specs.declared.shelf.Shelf.{Shelf}
use Rattle.oc_content.specs.declared.track.Span.{Span}
use Rattle.oc_content.specs.declared.track.Track.{Track}
use Rattle.oc_content.specs.Indexes.{IsTracked, paths, helds}
use Rattle.oc_content.specs.Founds.{IsRest}
use Rattle.oc_content.proofs.Lists.{map_at}
use Rattle.oc_content.proofs.Halving.{IsRest-hit}
use Rattle.oc_content.proofs.index.Index.find.Goals as goal

pub returns-clause-found : goal.returns-clause-found
returns-clause-found c = λ bodies k tracked held.
    let x = c.args.self.now in
    let at = c.args.at in
    let path : get_or (paths x.tracks.items) at [] ≡ c.index-2.result.now.spans.items = map_at (λ (t : Track). t.spans.items) x.tracks.items at c.index-2.result.now [] (omega (arith, c.requires.rows, c.requires.within)) c.index-2.ensures in
    let line : get_or (helds x.shelves.items) at 0 ≡ c.index.result.now.held = map_at (λ (s : Shelf). s.held) x.shelves.items at c.index.result.now 0 c.requires.within c.index.ensures in
    let here = subst (λ (p : List Span). IsTracked bodies k p) (path ∙ sym c.deref.ensures.value) tracked in
    let hit = c.in_ok-found.ensures.found bodies k here (omega (arith, held, line, c.if-index-start.false)) in
    let same : c.deref.result.now ≡ c.deref-2.result.now = c.deref.ensures.value ∙ sym c.deref-2.ensures.value in
    subst (λ (p : List Span). IsRest bodies k c.args.start p c.in_ok-found.found.skip) (sym (take_rest c.deref-2.result.now c.in_ok-found.found.span))
    (subst (λ (p : List Span). IsRest bodies k c.args.start (drop c.in_ok-found.found.span p) c.in_ok-found.found.skip) same (IsRest-hit bodies k c.deref.result.now c.args.start c.in_ok-found.found c.in_ok-found.ensures.within hit))
