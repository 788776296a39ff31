pub mod Resolving
pub mod Finishing
pub mod Repeating
pub mod Due
