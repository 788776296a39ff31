pub mod TextLaws
pub mod FollowLaws
pub mod FaultLaws
pub mod FeedLaws
pub mod PieceLaws
