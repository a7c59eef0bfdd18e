pub mod Descending
pub mod Firsts
pub mod Levels
pub mod Names
pub mod Places
pub mod Refuting
pub mod Rows
