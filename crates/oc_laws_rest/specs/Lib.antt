pub mod Rounds
pub mod Rest
pub mod Examples
