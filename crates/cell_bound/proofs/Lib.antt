pub mod NumberedLemmas
pub mod RefutedLemmas
