pub mod Keeping
pub mod Viewed
pub mod Noted
pub mod Rooms
pub mod Standing
pub mod Dues
