pub mod Keeper
pub mod KeeperKept
pub mod Least
