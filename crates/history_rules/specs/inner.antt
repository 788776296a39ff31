pub mod Histories
pub mod Honest
