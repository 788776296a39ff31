pub mod Blocks
pub mod Log
pub mod Measure
pub mod Rule
pub mod inner
