pub mod Best
pub mod Chosen
pub mod Causes
pub mod LeftOut
pub mod Once
pub mod Asked
