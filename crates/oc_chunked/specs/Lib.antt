pub mod Chunked
pub mod Stages
pub mod Taken
pub mod Views
pub mod Texts
