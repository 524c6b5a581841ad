pub mod Medians
pub mod Peers
