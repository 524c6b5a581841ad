pub mod Index
pub mod Digest
