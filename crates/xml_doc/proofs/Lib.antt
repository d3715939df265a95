pub mod AxisLaws
pub mod AxisLemmas
pub mod FieldLemmas
pub mod IdLemmas
pub mod KeptLemmas
pub mod Numbers
pub mod Ranges
pub mod SearchLemmas
pub mod ShapeLemmas
pub mod ShapeTests
mod Worked
