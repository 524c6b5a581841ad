-- Knowledge of a real disk: its size and counts, and nothing of its content.
use Rattle.std.specs.Prelude.{ℕ, ◌^◌, false, []}
use Rattle.oc_io.specs.DiskView.{DiskView}

-- a file of this size of which `faults` calls failed: nothing is claimed of its bytes or of a crash, and
-- its spare room has no limit of its own
abbrev pub file_view : ℕ → ℕ → DiskView
file_view size faults = record {
  seen = [];
  may_leave = λ c. Unit {0};
  moment = 0;
  since = λ t c. Unit {0};
  honest = false;
  size = size;
  room = 2 ^ 64;
  calls = 16;
  faults = faults;
  reliable = false;
  name = [];
  listed = [];
}
