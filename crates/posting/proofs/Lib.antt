pub mod Posting
pub mod Tables
pub mod Finishing
