pub mod Signed
pub mod Outcome
pub mod Laws
pub mod Code
pub mod Answers
pub mod Asked
pub mod Template
