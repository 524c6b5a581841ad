pub mod Folded
pub mod NextCerts
pub mod Steps
pub mod Rooms
pub mod Servers
pub mod ToldChildren
