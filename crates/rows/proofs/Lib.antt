pub mod CopyLemmas
mod HeadLemmas
pub mod PartLemmas
