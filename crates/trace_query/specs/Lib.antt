pub mod Moves
pub mod Spans
pub mod Index
pub mod inner
