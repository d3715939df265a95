pub mod Agreed
pub mod Endings
pub mod FilesAnswer
pub mod FormLaws
pub mod Lines
pub mod Runs
pub mod Steps
pub mod Stopped
pub mod Told
mod ManifestLaws
mod Worked
