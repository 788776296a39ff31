pub mod StartLaws
pub mod FinishLaws
pub mod LoadRows
pub mod AskLaws
pub mod DueLaws
pub mod EndLaws
pub mod OwnRecords
pub mod HonestLaws
