pub mod JournalFile
pub mod JournalView
pub mod Scanning
pub mod Promises
pub mod FrameBytes
pub mod Stopped
pub mod Written
pub mod Errors
