pub mod Layouts
pub mod Sealed
pub mod Places
