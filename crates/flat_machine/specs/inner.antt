pub mod Parts
pub mod Whole
pub mod Step
pub mod Bytes
