pub mod PureKinds
pub mod WordLemmas
pub mod Tokens
pub mod PlainWords
