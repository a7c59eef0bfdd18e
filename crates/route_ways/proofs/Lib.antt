pub mod LineLemmas
pub mod LogLemmas
pub mod TrimLemmas
pub mod WayLaws
pub mod WayLemmas
