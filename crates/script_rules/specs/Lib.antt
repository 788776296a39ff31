pub mod Script
pub mod Machines
pub mod inner
