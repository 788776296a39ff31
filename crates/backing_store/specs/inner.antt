pub mod Calls
pub mod Flips
pub mod Kept
pub mod Places
pub mod Store
pub mod Told
