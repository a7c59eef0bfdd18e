pub mod FirstLemmas
pub mod FloodLemmas
pub mod LinkLemmas
pub mod MarkLemmas
pub mod NumberLemmas
pub mod PinLemmas
pub mod ReachLemmas
