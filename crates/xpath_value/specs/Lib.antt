pub mod Characters
pub mod Numbers
pub mod Texts
pub mod Code
