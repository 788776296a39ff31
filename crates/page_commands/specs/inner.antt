pub mod Runs
pub mod Commands
pub mod Progress
