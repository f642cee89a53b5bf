pub mod Decisions
pub mod Calls
pub mod Log
pub mod Plans
pub mod Law
