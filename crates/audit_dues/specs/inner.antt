pub mod Next
pub mod Ends
