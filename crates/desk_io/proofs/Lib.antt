pub mod FileLemmas
pub mod ReadLemmas
pub mod RowLemmas
pub mod TableLemmas
pub mod WholeFileLemmas
pub mod WritingLaws
