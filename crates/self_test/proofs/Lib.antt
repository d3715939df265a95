pub mod Folders
pub mod Lines
pub mod Pieces
pub mod Refused
pub mod Values
mod Worked
