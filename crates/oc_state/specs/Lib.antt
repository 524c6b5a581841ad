pub mod DurableView
pub mod Snapshots
pub mod Position
pub mod Volatile
pub mod Modes
pub mod Children
pub mod ListUpdates
