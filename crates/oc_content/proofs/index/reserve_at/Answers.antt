use Rattle.std.proofs.Common.{◌<◌, ℕ, sym, subst}
use Rattle.std.proofs.lemmas.Result.{on_ok_weaker}
use Rattle.oc_content.specs.declared.track.Track.{Track}
use Rattle.oc_content.specs.Tracks.{room_of}
use Rattle.oc_content.proofs.Lists.{map-set_same, get_or-map_set, get_or-map_set_least}
use Rattle.oc_content.proofs.index.reserve_at.Goals as goal

pub returns-clause-room : goal.returns-clause-room
returns-clause-room c =
    on_ok_weaker c.reserve.result (λ room. subst (λ (n : ℕ). 0 < n) (sym (get_or-map_set room_of c.args.at c.args.tracks.now.items c.reserve.new.self 0 c.requires)) room) c.reserve.ensures.room

pub returns-clause-tracks : goal.returns-clause-tracks
returns-clause-tracks c =
    let ts = c.args.tracks.now.items in
    record {
      paths = map-set_same (λ (t : Track). t.spans.items) c.args.at ts c.index_mut.result.now c.reserve.new.self c.index_mut.ensures.value c.reserve.ensures.spans;
      rooms = get_or-map_set_least room_of c.args.at ts c.index_mut.result.now c.reserve.new.self c.index_mut.ensures.value c.reserve.ensures.no_less;
    }
