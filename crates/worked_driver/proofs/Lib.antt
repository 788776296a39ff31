pub mod LawfulLaws
pub mod SettledLaws
pub mod FaultLaws
