pub mod Places
pub mod Moves
pub mod Laws
pub mod inner
