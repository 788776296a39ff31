pub mod Seen
pub mod Rule
pub mod Known
