pub mod Occurrences
pub mod Search
pub mod Laws
pub mod Faults
