pub mod Counting
pub mod Plain
pub mod Trimming
pub mod Way
