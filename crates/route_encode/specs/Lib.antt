pub mod Added
pub mod Adding
pub mod Bits
pub mod Encoding
pub mod Exact
pub mod Good
pub mod Rivals
pub mod Said
