pub mod Judged
pub mod inner
