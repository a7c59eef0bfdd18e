pub mod Assignments
pub mod Causes
pub mod Drafts
pub mod LineKinds
pub mod Models
pub mod ModelText
