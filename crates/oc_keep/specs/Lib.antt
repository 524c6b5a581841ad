pub mod Puts
pub mod Files
pub mod Errors
pub mod KeptView
pub mod Writing
pub mod ReadyView
pub mod ControlStep
pub mod Turning
pub mod Promises
pub mod Calls
pub mod Trials
-- the names of the crates below that clauses use
pub use Rattle.oc_journal.specs.declared.errors.FileError
pub use Rattle.oc_store.specs.declared.errors.Side
