-- The record of a disk in memory, as a contract sees it.
use Rattle.std.specs.Prelude.{ℕ, List}
use Rattle.oc_io.specs.Calls.{Call}

-- the calls, newest first, and the numbers of further bytes and calls for which there is memory
pub record DiskLogView : Type 0 where
  pub past : List Call
  pub room : ℕ
  pub calls : ℕ
