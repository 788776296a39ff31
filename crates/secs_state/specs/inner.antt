pub mod Secs
pub mod Kept
pub mod Table
pub mod Lending
pub mod Sights
pub mod Resident
