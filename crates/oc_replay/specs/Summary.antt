use Rattle.std.specs.Prelude.{ℕ, ◌+◌, ◌^◌, ◌<◌, ◌&&◌, List, ◌++◌, length, codes, decimal}
use Rattle.std.specs.Int.{from_bool}
use Rattle.std.specs.List.{sum_by}
use Rattle.oc_base.specs.Groups.{shelf}
use Rattle.oc_base.specs.Shelves.{held_in_all}
use Rattle.oc_model.specs.declared.event.Event.{Event}
use Rattle.oc_model.specs.Adopting.{is_acting}
use Rattle.oc_model.specs.NextWorld.{world_after}
use Rattle.oc_model.specs.Records.{is_joined}
use Rattle.oc_model.specs.World.{World, ids, is_up, mode_of, node}
use Rattle.oc_replay.specs.declared.summing.Tally.{Tally}

-- What a summary says of a world.

-- the counts of one node: whether it is up, whether it then is joined or acts as root, and the
-- bytes that it holds
abbrev pub tally_at : World → ℕ → Tally
tally_at w x = record {
  up = from_bool (is_up w x);
  joined = from_bool (is_up w x && is_joined (mode_of w x));
  acting = from_bool (is_up w x && is_acting (mode_of w x));
  bytes = held_in_all (shelf (node w x).groups);
}

-- the same for some nodes together
abbrev pub tally_over : World → List ℕ → Tally
tally_over w xs = record {
  up = sum_by (λ x. (tally_at w x).up) xs;
  joined = sum_by (λ x. (tally_at w x).joined) xs;
  acting = sum_by (λ x. (tally_at w x).acting) xs;
  bytes = sum_by (λ x. (tally_at w x).bytes) xs;
}

-- `WORD NUMBER`
abbrev pub count_line : List ℕ → ℕ → List ℕ
count_line word count = word ++ codes " " ++ decimal count ++ codes "\n"

-- six lines: the events, the messages, the nodes that are up, those of them that are joined and
-- that act as root, the bytes held
abbrev pub summary_of_tally : ℕ → ℕ → Tally → List ℕ
summary_of_tally events messages tally =
    count_line (codes "events") events
    ++ count_line (codes "messages") messages
    ++ count_line (codes "up") tally.up
    ++ count_line (codes "joined") tally.joined
    ++ count_line (codes "acting") tally.acting
    ++ count_line (codes "bytes") tally.bytes

-- the summary of the world after `events` events, over all its nodes
abbrev pub summary_text : ℕ → World → List ℕ
summary_text events w = summary_of_tally events (length w.net) (tally_over w (ids w))

-- the summary of a run that opens with this world
abbrev pub run_summary : World → List Event → List ℕ
run_summary w es = summary_text (length es) (world_after w es)

-- the counts of these and of other nodes together
abbrev pub plus : Tally → Tally → Tally
plus s t = record { up = s.up + t.up; joined = s.joined + t.joined; acting = s.acting + t.acting; bytes = s.bytes + t.bytes }

-- a u64 has each number of the two together
abbrev pub FitsWith : Tally → Tally → Type 0
FitsWith s t = (s.up + t.up < 2 ^ 64) × (s.joined + t.joined < 2 ^ 64) × (s.acting + t.acting < 2 ^ 64) × (s.bytes + t.bytes < 2 ^ 64)
