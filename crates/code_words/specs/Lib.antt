pub mod Causes
pub mod Codes
pub mod Errors
pub mod Foreign
pub mod Phrases
pub mod Refused
