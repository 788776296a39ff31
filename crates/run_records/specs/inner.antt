pub mod Builds
pub mod Honest
pub mod Silent
pub mod Records
