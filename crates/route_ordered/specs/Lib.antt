pub mod Counts
pub mod Ordered
