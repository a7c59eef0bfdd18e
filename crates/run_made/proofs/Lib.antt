pub mod GeneratedLaws
pub mod TrackLaws
