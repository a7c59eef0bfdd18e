pub mod CellCountLemmas
pub mod CellMeets
pub mod ClosedLemmas
pub mod CrowdLaws
pub mod GatherLemmas
pub mod LeadLemmas
mod LimitRows
pub mod Rivals
pub mod SlotCells
pub mod TrackLaws
pub mod TracklessLaw
pub mod TreeLemmas
