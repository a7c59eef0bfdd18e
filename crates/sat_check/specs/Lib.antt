pub mod Bits
pub mod DerivedStore
pub mod FalseStore
pub mod Finder
pub mod InputStore
pub mod LiveStore
pub mod Replaying
pub mod Verdict
