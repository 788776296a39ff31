pub mod Courses
pub mod Recording
pub mod Refusing
pub mod Kicking
pub mod Turns
pub mod Passing
pub mod Views
pub mod Kept
