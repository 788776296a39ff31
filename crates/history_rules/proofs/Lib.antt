pub mod HistoryLaws
pub mod RunLaws
pub mod NoteLaws
pub mod HonestLaws
