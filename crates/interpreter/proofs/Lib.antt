pub mod Reading
pub mod Asking
pub mod Lines
pub mod Performing
