pub mod Row
pub mod Sealing
