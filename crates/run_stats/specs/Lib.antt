pub mod Data
pub mod Sizes
