mod LimitRows
pub mod RequiredWords
pub mod Rows
