pub mod AskLaws
pub mod FollowLaws
pub mod LoadLaws
pub mod PlaceLaws
