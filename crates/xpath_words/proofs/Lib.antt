pub mod Runs
pub mod Letters
pub mod WordLaws
pub mod TextLaws
pub mod Turns
pub mod Groups
pub mod WorkedExamples
