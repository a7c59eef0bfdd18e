pub mod Quiet
pub mod Raised
pub mod Names
pub mod AtFault
pub mod Seen
pub mod Unfound
pub mod Said
