pub mod EnclaveLaws
pub mod ViewLaws
