pub mod Extent
pub mod Moved
pub mod Untold
