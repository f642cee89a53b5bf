pub mod Counters
pub mod Slots
pub mod Sheets
pub mod Posts
pub mod Families
