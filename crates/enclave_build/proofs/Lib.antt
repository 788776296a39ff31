mod Writes
pub mod Columns
pub mod SecsLaws
pub mod CountLaws
