pub mod Readings
pub mod Inside
