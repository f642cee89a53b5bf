pub mod Masks
pub mod Meaning
pub mod Laws
pub mod Pairs
pub mod Parts
