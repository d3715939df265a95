pub mod CoveredLemmas
pub mod FilterLemmas
pub mod SelectionLemmas
pub mod Worked
