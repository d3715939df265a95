pub mod Answers
pub mod Elements
pub mod Findings
pub mod Laws
pub mod Manifests
pub mod Code
