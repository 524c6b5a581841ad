mod Texts
pub mod Pads
pub mod Tokens
pub mod Within
pub mod Coverings
pub mod Firsts
mod Comparing
mod Digits
mod Spelled
