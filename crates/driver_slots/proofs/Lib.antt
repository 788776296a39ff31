pub mod ArrayLaws
pub mod KeeperLaws
pub mod LeastLaws
pub mod WriteLaws
pub mod FullLaws
