pub mod StartLaws
mod LawfulLaws
pub mod SpareLaws
mod FitLaws
mod FollowLaws
pub mod AgreeLaws
pub mod EndLaws
