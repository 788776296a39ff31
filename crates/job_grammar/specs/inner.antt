pub mod Jobs
pub mod Valid
pub mod Kept
