pub mod Causes
pub mod Check
pub mod Placed
