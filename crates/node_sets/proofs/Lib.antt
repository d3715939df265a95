pub mod SpanLemmas
pub mod WordLemmas
