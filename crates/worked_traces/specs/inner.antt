pub mod Evictions
pub mod Traces
