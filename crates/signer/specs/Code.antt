-- What only the code's own contracts and the proofs speak of: no public contract says it.
pub mod Refusals
pub mod Reading
pub mod Views
pub mod Filling
pub mod Sealing
pub mod Comparing
pub mod Signing
