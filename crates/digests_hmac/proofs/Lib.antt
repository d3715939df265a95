pub mod Blocks
pub mod Lengths
pub mod Examples
pub mod DigitLaws
pub mod KeyLaws
pub mod FileLaws
