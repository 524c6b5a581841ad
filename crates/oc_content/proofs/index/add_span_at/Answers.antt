use Rattle.std.proofs.Common.{List, ℕ, ◌-◌, ◌++◌}
use Rattle.oc_content.specs.declared.track.Span.{Span}
use Rattle.oc_content.specs.declared.track.Track.{Track}
use Rattle.oc_content.specs.Indexes.{span_of, spans_for}
use Rattle.oc_content.specs.Tracks.{room_of}
use Rattle.oc_content.proofs.Lists.{map-set_changed}
use Rattle.oc_content.proofs.index.add_span_at.Goals as goal

pub returns-clause-paths : goal.returns-clause-paths
returns-clause-paths c =
    map-set_changed (λ (t : Track). t.spans.items) (λ (p : List Span). p ++ span_of c.args.heading.now c.args.count c.args.frame) c.args.at c.args.tracks.now.items c.index_mut.result.now c.add_span.new.track c.requires.within c.index_mut.ensures.value c.add_span.ensures.spans

pub returns-clause-rooms : goal.returns-clause-rooms
returns-clause-rooms c =
    map-set_changed room_of (λ (r : ℕ). r - spans_for c.args.count) c.args.at c.args.tracks.now.items c.index_mut.result.now c.add_span.new.track c.requires.within c.index_mut.ensures.value c.add_span.ensures.room
