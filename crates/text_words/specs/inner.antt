pub mod Words
pub mod Reading
pub mod Room
pub mod Names
