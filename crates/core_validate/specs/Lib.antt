pub mod Answers
pub mod Authenticated
pub mod Laws
pub mod Measures
pub mod Progress
pub mod Reached
pub mod Verdict
pub mod Code
