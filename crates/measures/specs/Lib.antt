pub mod Measuring
pub mod Kinds
