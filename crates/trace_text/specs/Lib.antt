pub mod Names
pub mod Fields
pub mod TraceText
pub mod Readable
