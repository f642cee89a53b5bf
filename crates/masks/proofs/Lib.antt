pub mod Bits
pub mod Built
pub mod Counting
pub mod Lowest
pub mod Parts
