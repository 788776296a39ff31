pub mod Copies
pub mod Once
pub mod Away
