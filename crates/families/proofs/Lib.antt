pub mod Losses
pub mod Order
