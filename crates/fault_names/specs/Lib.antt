pub mod Ends
pub mod LinesBy
pub mod Lookups
pub mod NameBytes
pub mod PinNets
pub mod Quoted
