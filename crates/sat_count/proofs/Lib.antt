pub mod DefineLemmas
pub mod FirstLemmas
pub mod GrowLemmas
pub mod HintLemmas
pub mod LevelLemmas
mod LimitRows
pub mod PairLemmas
pub mod RefutingLemmas
pub mod RowLemmas
pub mod StandLemmas
pub mod StepLemmas
pub mod VariableLemmas
