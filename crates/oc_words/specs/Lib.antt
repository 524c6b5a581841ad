pub mod Arguments
pub mod Command
pub mod Words
pub mod Requests
pub mod Status
pub mod Paths
