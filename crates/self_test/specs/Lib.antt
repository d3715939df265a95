pub mod Code
pub mod Document
pub mod Outcome
pub mod Question
