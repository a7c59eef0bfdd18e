pub mod AlikeLemmas
pub mod CodeRows
pub mod ConnectLemmas
pub mod DraftLemmas
pub mod EndLemmas
pub mod EntryLemmas
pub mod GivenLemmas
pub mod GlobalLemmas
mod LimitRows
pub mod LineLemmas
pub mod NameLemmas
pub mod ReadLemmas
pub mod ReadRows
pub mod RowTexts
pub mod SoundLemmas
pub mod UseLemmas
