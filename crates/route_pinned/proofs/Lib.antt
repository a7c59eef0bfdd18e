pub mod EncodeLemmas
pub mod FairLemmas
pub mod PinClauses
pub mod PinLemmas
mod Rows
pub mod SwapLemmas
