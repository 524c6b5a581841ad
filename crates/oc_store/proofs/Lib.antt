pub mod FrameReads
pub mod Refusals
pub mod Turns
pub mod Snapshots
pub mod MoreNodes
