pub mod CountLaws
pub mod FullSound
pub mod GroupLaws
pub mod HeldLaws
pub mod IdLaws
pub mod LeadLaws
pub mod Rows
pub mod TrackLaws
