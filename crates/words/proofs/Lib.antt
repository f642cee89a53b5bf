pub mod Suffixes
pub mod Searches
pub mod Counting
pub mod Accounts
pub mod Steps
