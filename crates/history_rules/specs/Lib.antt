pub mod Histories
pub mod Calls
pub mod Given
pub mod Stored
pub mod Honest
pub mod inner
