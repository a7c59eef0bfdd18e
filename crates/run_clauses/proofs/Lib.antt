pub mod CommentLaws
pub mod DecodeLaws
pub mod KnownLaws
pub mod MethodLaws
pub mod PreparedLaws
pub mod SuitedLaws
pub mod VariableNameLaws
