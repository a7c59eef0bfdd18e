pub mod LimitRows
pub mod NameLaws
pub mod PlacedLaws
pub mod PosedLaws
pub mod StopLaws
pub mod StoppedLaws
pub mod WrittenLaws
