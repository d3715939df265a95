mod AskLaws
mod Lists
mod MeasureLaws
pub mod OutcomeLaws
mod ProgressLaws
mod ReachedLaws
mod SignatureLaws
mod ValidLaws
pub mod Verdicts
mod Worked
