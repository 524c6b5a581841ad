pub mod OutcomeView
pub mod Planning
pub mod Areas
pub use Rattle.oc_state.specs.DurableView
pub use Rattle.oc_step.specs.NodeView
pub use Rattle.oc_step.specs.Planned
pub use Rattle.oc_step.specs.Applying
