pub mod Sound
pub mod Sizes
pub mod Merging
pub mod Frames
pub mod Order
pub mod LawfulNode
