pub mod Kinds
pub mod Order
pub mod Frames
pub mod Digits
pub mod Lines
pub mod Reading
