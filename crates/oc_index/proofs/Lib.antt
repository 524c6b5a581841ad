pub mod GroupLists
pub mod Indexed
pub mod LoneSteps
pub mod Played
pub mod Same
