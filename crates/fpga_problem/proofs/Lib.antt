pub mod FileLemmas
mod LimitRows
pub mod SourceLemmas
mod TextLemmas
