pub mod Reached
pub mod Routings
pub mod Texts
