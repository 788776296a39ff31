pub mod OutText
pub mod inner
