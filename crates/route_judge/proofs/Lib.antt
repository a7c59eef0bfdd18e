pub mod CauseLemmas
pub mod CleanLines
pub mod FittingFiles
pub mod KindLemmas
pub mod LeadLemmas
pub mod LineCauses
pub mod NetRoutings
pub mod OwnEnds
mod RuleLemmas
pub mod SaysLemmas
pub mod TreeLemmas
mod VerdictLemmas
pub mod VerifiedFiles
