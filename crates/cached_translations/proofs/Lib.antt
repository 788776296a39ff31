pub mod TranslationLaws
pub mod ProbeLaws
pub mod ProbeInsert
pub mod ProbeRemove
pub mod ProbeSweep
pub mod RingLaws
pub mod IndexLaws
