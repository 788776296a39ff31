pub mod EntryView
pub mod Words
pub mod Epc
pub mod Kept
pub mod Sights
