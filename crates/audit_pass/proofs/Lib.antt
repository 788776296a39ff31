pub mod AgeLaws
pub mod TryLaws
