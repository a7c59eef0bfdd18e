pub mod Blamed
pub mod Refutations
