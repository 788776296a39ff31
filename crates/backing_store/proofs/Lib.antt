pub mod AnswerLaws
pub mod CallLaws
pub mod Flipped
pub mod GoodLaws
pub mod KeyLaws
pub mod RuleLaws
