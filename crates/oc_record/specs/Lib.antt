pub mod Faults
pub mod Spelling
pub mod Rows
pub mod Reading
pub mod Examples
pub mod Quash
pub mod SeeksNoPlace
