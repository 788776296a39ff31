pub mod Faults
pub mod MemSink
pub mod MemSource
pub mod Sinks
pub mod Sources
