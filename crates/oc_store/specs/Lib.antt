pub mod Sides
pub mod ControlFiles
pub mod StoreView
pub mod Promises
pub mod Turning
