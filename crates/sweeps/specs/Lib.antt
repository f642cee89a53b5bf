pub mod Sequences
pub mod Joining
pub mod Sweep
pub mod Place
pub mod Figures
