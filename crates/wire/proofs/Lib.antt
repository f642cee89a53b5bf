pub mod Buffers
pub mod Growing
pub mod Pairs
