pub mod Lists
pub mod Columns
pub mod Rows
