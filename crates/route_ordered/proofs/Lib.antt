pub mod AddingLemmas
pub mod ClauseLemmas
pub mod CrowdSlots
pub mod EncoderLemmas
pub mod FairLemmas
pub mod GroupLemmas
pub mod OrderLemmas
mod Rows
