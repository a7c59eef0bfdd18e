pub mod DraftLemmas
pub mod MarkLemmas
pub mod ModelLemmas
pub mod ReadLemmas
mod Rows
