pub mod SeenLaws
pub mod RuleLaws
