pub mod One
pub mod Several
pub mod Lasts
pub mod Texts
pub mod Together
pub mod Info
pub mod InOrder
pub mod Refilled
