pub mod Clash
pub mod WatchStates
