pub mod Machine
pub mod SecsAway
pub mod ArraysAway
