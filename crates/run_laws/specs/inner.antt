pub mod Honest
pub mod Books
pub mod Turns
pub mod Loads
pub mod Bits
pub mod Behind
