pub mod DialLists
pub mod MemDiallerStory
pub mod StringsIn
pub mod ConnectionLists
pub mod Stories
pub mod Telling
