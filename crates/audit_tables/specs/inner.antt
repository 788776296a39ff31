pub mod Following
pub mod Followed
pub mod Shown
