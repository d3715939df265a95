-- What only the code's own contracts and the proofs speak of: no public contract says it.
pub mod Below
pub mod Clean
pub mod Climbs
pub mod Going
pub mod Kept
pub mod Placed
pub mod Prepared
pub mod Slices
pub mod Stand
pub mod Surplus
