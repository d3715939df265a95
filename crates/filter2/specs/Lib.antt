pub mod Filters
pub mod Selections
pub mod Code
