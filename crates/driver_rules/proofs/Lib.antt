pub mod SameLaws
pub mod DecidedLaws
pub mod ReclaimLaws
pub mod OutLaws
mod Worked
