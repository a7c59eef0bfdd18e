pub mod Judge
pub mod Judged
pub mod Rules
pub mod Says
