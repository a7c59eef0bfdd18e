pub mod Begun
pub mod Crowded
pub mod Firsts
pub mod Meetings
pub mod Said
