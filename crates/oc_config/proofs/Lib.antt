pub mod Results
pub mod Faults
pub mod Documents
pub mod Lists
pub mod Tables
pub mod Places
pub mod Said
pub mod Settled
pub mod Walks
pub mod Lawful
mod Lines
mod Keys
mod Splits
mod Spelled
pub mod Ipv6
pub mod AddressBytes
mod Stays
