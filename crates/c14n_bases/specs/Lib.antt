pub mod Join
pub mod Joined
pub mod Code
