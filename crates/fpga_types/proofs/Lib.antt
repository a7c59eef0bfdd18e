pub mod BoxLemmas
pub mod CellLemmas
mod FabricRows
pub mod FitLemmas
pub mod MeetingLemmas
mod MeetingRows
mod RowValues
pub mod NameLaws
pub mod SlotLemmas
pub mod TrackLemmas
mod FitsRows
mod LimitRows
pub mod FitsLemmas
pub mod SpotLemmas
mod GivenRows
