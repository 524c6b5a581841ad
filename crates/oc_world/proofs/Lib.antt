pub mod Source
pub mod Turns
pub mod Sites
pub mod Leases
pub mod Open
pub mod Left
pub mod Loaded
pub mod States
pub mod Cuts
mod ReadBack
mod Shared
mod NetLists
