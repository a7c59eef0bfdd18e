pub mod CodeRows
pub mod DraftLemmas
pub mod FaultLemmas
pub mod PinLemmas
pub mod ReadLemmas
pub mod ReadRows
pub mod RowTexts
pub mod SegmentLemmas
