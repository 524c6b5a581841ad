pub mod Nearer
pub mod Best
pub mod Chosen
pub mod Among
pub mod Causes
pub mod Asked
pub mod Once
