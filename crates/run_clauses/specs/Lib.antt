pub mod Decode
pub mod Encode
pub mod Known
pub mod Method
pub mod Suited
pub mod VariableNames
