pub mod Later
pub mod Read
pub mod Grown
pub mod Copies
