pub mod Flooding
pub mod Links
pub mod Marks
pub mod Opening
pub mod Unreached
