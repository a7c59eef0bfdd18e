pub mod Around
pub mod Beside
pub mod Cells
pub mod Crossing
pub mod GraphOf
pub mod Wires
