pub mod Senses
pub mod Rows
