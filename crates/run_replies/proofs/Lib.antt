pub mod EntryLaws
pub mod NumberLaws
