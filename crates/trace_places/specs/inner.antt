pub mod Frames
pub mod Tables
