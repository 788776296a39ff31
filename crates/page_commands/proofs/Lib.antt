pub mod CommandLaws
pub mod EndLaws
pub mod OneLaws
pub mod SumLaws
pub mod XaddLaws
