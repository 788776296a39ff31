pub mod Counts
pub mod Given
pub mod Read
