-- What only the code's own contracts and the proofs speak of: no public contract says it.
pub mod Ending
pub mod Form
pub mod Printed
pub mod Stops
