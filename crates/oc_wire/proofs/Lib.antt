pub mod FieldReads
pub mod NameReads
pub mod Ascending
pub mod ListReads
pub mod KindReads
pub mod BodyReads
pub mod MessageReads
pub mod Leasts
pub mod RequestReads
pub mod OneAnswer
pub mod Authentic
pub mod Sizes
pub mod Puts
pub mod Lifts
mod Rows
pub mod UnderKeys
