pub mod Given
pub mod Handing
pub mod Names
pub mod Stood
pub mod Code
