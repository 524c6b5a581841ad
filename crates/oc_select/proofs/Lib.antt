pub mod Scanned
pub mod Commas
pub mod Parted
pub mod Numbers
pub mod Tagged
pub mod Selected
pub mod Given
