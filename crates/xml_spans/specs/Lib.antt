pub mod Moved
pub mod Spans
pub mod Code
