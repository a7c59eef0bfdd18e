pub mod Asked
pub mod Climb
pub mod Ended
pub mod Found
pub mod Names
pub mod NetNames
pub mod Slots
pub mod Written
