pub mod EntryLaws
pub mod FieldLaws
