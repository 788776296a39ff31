pub mod Plain
pub mod Arrays
pub mod Noting
pub mod Noted
