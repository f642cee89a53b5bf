pub mod Masks
pub mod Rounds
pub mod Largest
pub mod Told
