pub mod Order
pub mod Runs
pub mod Largest
pub mod Rounds
pub mod Halfway
pub mod Spots
pub mod Determined
