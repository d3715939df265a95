pub mod Padding
pub mod Reading
pub mod Bare
