pub mod Choosing
pub mod Stays
pub mod Codes
pub mod Run
