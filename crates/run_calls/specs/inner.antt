pub mod Comes
pub mod Stores
