pub mod Words
pub mod Views
pub mod Rule
pub mod Known
pub mod Rounds
