pub mod EntryLaws
pub mod ArrayLaws
pub mod FromLaws
pub mod SecsLaws
pub mod NameLaws
mod SaveLaws
pub mod UseLaws
mod FitLaws
pub mod NotedLaws
