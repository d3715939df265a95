pub mod TextAlone
pub mod RowSpans
pub mod Seen
pub mod Alike
pub mod Code
