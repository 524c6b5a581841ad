pub mod Faults
pub mod Rates
pub mod Turns
