pub mod OutLaws
pub mod AskLaws
pub mod FollowLaws
pub mod JudgeLaws
pub mod LoopLaws
pub mod NewLaws
pub mod RuleLaws
