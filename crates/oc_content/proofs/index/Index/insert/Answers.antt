use Rattle.std.proofs.Common.{◌≡◌, ℕ, List, ◌++◌, insert, ap, ◌∙◌, rules}
use Rattle.oc_content.specs.declared.track.Span.{Span}
use Rattle.oc_content.specs.declared.track.Track.{Track}
use Rattle.oc_content.specs.Indexes.{paths, rooms, span_of}
use Rattle.oc_content.specs.Tracks.{room_of}
use Rattle.oc_content.proofs.Lists.{map-insert}
use Rattle.oc_content.proofs.index.Index.insert.Goals as goal

pub returns-clause-paths : goal.returns-clause-paths
returns-clause-paths c =
    let ts = c.args.self.now.tracks.items in
    let items : c.insert-2.new.self.items ≡ insert ts c.args.at c.add_span.new.track = search rules in
    let spans : c.add_span.new.track.spans.items ≡ span_of c.args.heading.now c.args.count c.args.frame =
    c.add_span.ensures.spans ∙ ap (λ (p : List Span). p ++ span_of c.args.heading.now c.args.count c.args.frame) c.requires.empty in
    ap paths items ∙ (map-insert (λ (t : Track). t.spans.items) c.args.at ts c.add_span.new.track ∙ ap (λ (p : List Span). insert (paths ts) c.args.at p) spans)

pub returns-clause-rooms : goal.returns-clause-rooms
returns-clause-rooms c =
    let ts = c.args.self.now.tracks.items in
    let items : c.insert-2.new.self.items ≡ insert ts c.args.at c.add_span.new.track = search rules in
    ap rooms items ∙ (map-insert room_of c.args.at ts c.add_span.new.track ∙ ap (λ (r : ℕ). insert (rooms ts) c.args.at r) c.add_span.ensures.room)
