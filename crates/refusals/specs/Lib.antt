pub mod First
pub mod Posting
pub mod Reports
