pub mod NodeView
pub mod Planned
pub mod Applying
pub mod StepView
pub mod Since
pub mod Told
