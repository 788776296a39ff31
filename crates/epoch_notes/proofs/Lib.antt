pub mod WordLaws
pub mod NoteLaws
pub mod EntryLaws
pub mod ManyLaws
