pub mod Words
mod Frames
pub mod Columns
pub mod SecsFrames
