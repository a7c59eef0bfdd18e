pub mod BlockLemmas
mod CodeRows
pub mod DraftLemmas
pub mod FaultLemmas
pub mod PlaceLemmas
pub mod ReadLemmas
mod ReadRows
pub mod RowLemmas
mod RowTexts
pub mod SoundLemmas
pub mod SpotLemmas
