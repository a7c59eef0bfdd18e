pub mod ClashLaws
pub mod WatchLemmas
