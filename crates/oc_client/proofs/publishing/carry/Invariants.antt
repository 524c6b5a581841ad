-- pieces went by, after each of which others may come
use Rattle.std.proofs.Common.{length, ℕ, List, [], ◌≡◌, ◌≢◌, ◌⊎◌, ◌+◌, ◌-◌, true, false}
use Rattle.oc_base.specs.declared.limits.TheConstants.{MAX_GROUP_BYTES}
use Rattle.oc_client.proofs.publishing.carry.Given as goal
use Rattle.oc_client.specs.Carrying.{HasCarried}
use Rattle.oc_client.specs.Jobs.{goal_of}
use Rattle.oc_client.specs.Places.{sends_empty}
use Rattle.oc_client.specs.ProgressLines.{Grows}
use Rattle.oc_client.specs.Publishing.{joined}
use Rattle.oc_client.specs.declared.input.TheConstants.{PUT_PIECE_BYTES}
use Rattle.oc_io.specs.Faults.{NoFall}

abbrev pub invariant-pieces : goal.invariant-pieces
invariant-pieces g l = record {
  pieces : List (List ℕ);
  has : HasCarried g.S.Source.gives l.job.plan (goal_of l.job) l.fn.found (g.L.Dialler.story l.fn.link) (g.L.Dialler.story l.link) l.fn.input l.input l.reached pieces;
  first : l.may_be_empty ≡ true → (sends_empty l.job.plan.place ≡ true) × (pieces ≡ []);
  later : l.may_be_empty ≡ false → (sends_empty l.job.plan.place ≡ false) ⊎ (pieces ≢ []);
  grew : Grows g.E.Sink.takes g.E.Sink.fails l.fn.aside.lines (length (joined pieces)) l.aside.lines;
  link_count : NoFall (g.L.Dialler.faults l.fn.link) (g.L.Dialler.faults l.link);
  input_count : NoFall (g.S.Source.faults l.fn.input) (g.S.Source.faults l.input);
}

abbrev pub decreases-pieces : goal.decreases-pieces
decreases-pieces g l = (MAX_GROUP_BYTES + PUT_PIECE_BYTES) - l.reached.length
