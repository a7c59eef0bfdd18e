pub mod ClimbLemmas
pub mod FoundLemmas
