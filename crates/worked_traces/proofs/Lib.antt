pub mod EvictionLaws
pub mod TraceLaws
