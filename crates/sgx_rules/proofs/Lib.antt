pub mod Busy
pub mod Contents
pub mod Goings
pub mod Keystone
pub mod Rows
mod Worked
mod WorkedEviction
