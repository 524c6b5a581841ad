pub mod Folders
pub mod Examples
