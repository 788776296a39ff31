pub mod Answers
pub mod Enclaves
pub mod Facts
pub mod Faults
pub mod Kept
pub mod PageTables
pub mod Scripts
pub mod Sound
