pub mod NextLaws
pub mod EndLaws
