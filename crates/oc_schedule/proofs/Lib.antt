pub mod Ranges
pub mod Lawful
pub mod Draws
pub mod EventsBack
pub mod Readback
pub mod Generated
pub mod Alike
pub mod Steps
pub mod LineBack
pub mod FieldsBack
pub mod ActsBack
pub mod ActRanges
pub mod Listed
mod WithinLimits
