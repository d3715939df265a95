-- What only the code's own contracts and the proofs speak of: no public contract says it.
pub mod Joined
pub mod Stacks
pub mod Utilized
pub mod Order
pub mod Nearest
