pub mod Passes
pub mod Stops
pub mod Targets
pub mod Slotted
pub mod Reclaims
pub mod Same
pub mod Decided
