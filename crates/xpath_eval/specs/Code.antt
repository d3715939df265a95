-- What only the code's own contracts and the proofs speak of: no public contract says it.
pub mod Context
pub mod Enough
pub mod Gathering
pub mod Meaning
pub mod Outcome
pub mod Reads
