pub mod Kept
pub mod Reloads
pub mod Naming
