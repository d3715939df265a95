pub mod Answers
pub mod Command
pub mod Given
pub mod Job
pub mod Values
pub mod Word
pub mod Code
