pub mod Blocks
pub mod Sights
pub mod Tally
