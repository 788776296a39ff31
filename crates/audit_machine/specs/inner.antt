pub mod Asked
pub mod Outside
pub mod Reasons
pub mod Same
pub mod Forms
pub mod Rivals
pub mod Kept
pub mod Views
