pub mod Characters
pub mod Digits
pub mod Occurrences
pub mod Places
pub mod Points
pub mod Runs
pub mod Translations
pub mod WorkedExamples
