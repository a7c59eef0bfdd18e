pub mod Bound
pub mod Global
pub mod Least
pub mod Raised
pub mod Reasons
