pub mod FrontParts
pub mod Members
pub mod Numbered
pub mod Places
pub mod Ranges
pub mod Rows
pub mod Searches
pub mod Ties
