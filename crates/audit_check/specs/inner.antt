pub mod Asks
pub mod Named
pub mod Tests
