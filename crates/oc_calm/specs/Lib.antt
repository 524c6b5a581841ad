pub mod CalmRuns
pub mod Longest
pub mod Cluster
pub mod Placed
pub mod Played
pub mod Timely
pub mod Tree
pub mod Way
