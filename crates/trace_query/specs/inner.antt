pub mod Lists
pub mod Kept
pub mod Sights
pub mod Insides
pub mod Seen
pub mod WordLists
pub mod Written
