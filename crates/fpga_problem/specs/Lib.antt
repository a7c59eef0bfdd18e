pub mod Files
pub mod Refused
pub mod Sources
pub mod Texts
