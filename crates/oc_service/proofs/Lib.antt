mod Stories
mod Machines
mod Measured
mod Replies
mod HeadFaults
pub mod BorneOut
mod Recorded
mod Alike
pub mod Retold
mod Headers
mod Probes
mod Within
mod Runs
mod OnSite
mod Unfailed
mod Loaded
