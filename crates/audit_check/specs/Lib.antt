pub mod Checked
pub mod inner
