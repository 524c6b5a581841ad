pub mod Looks
pub mod Moments
pub mod Scenes
pub mod Noting
pub mod Parts
pub mod Runs
pub mod Lawful
pub mod Settled
