pub mod Tracking
pub mod Counters
pub mod Tracks
