pub mod TableLaws
pub mod FaultLaws
pub mod PassLaws
pub mod StoreLaws
