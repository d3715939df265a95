pub mod Marks
pub mod Standing
pub mod Attributes
pub mod Written
pub mod Same
pub mod Elements
pub mod Fixed
pub mod WorkedExamples
