pub mod Digests
pub mod LineWords
