pub mod Apart
pub mod JointLemmas
pub mod MarkLemmas
pub mod Ranges
pub mod ReachedLemmas
mod WireRows
