pub mod CatalogLaws
pub mod FileLaws
pub mod CutLaws
pub mod PointerLaws
pub mod NameLaws
pub mod WorkedExamples
