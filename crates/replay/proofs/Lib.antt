pub mod Short
pub mod Chains
