pub mod Sights
pub mod Effects
