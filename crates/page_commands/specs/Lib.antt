pub mod Runs
pub mod Commands
pub mod Says
pub mod Summary
pub mod GateText
pub mod VerdictText
pub mod JudgedBy
pub mod inner
