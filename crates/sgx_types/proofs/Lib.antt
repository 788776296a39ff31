pub mod Chunks
pub mod CountLaws
pub mod Pages
pub mod Records
pub mod LawfulLaws
pub mod LeastLaws
pub mod Lists
pub mod Truths
