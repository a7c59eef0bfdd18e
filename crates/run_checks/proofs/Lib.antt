pub mod LiteralLaws
pub mod VerifiedLaws
