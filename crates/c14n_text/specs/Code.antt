-- What only the code's own contracts and the proofs speak of: no public contract says it.
pub mod Choice
pub mod Escapes
pub mod Progress
pub mod Quiet
pub mod Rows
pub mod Tree
