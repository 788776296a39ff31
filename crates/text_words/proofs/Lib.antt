pub mod Digits
pub mod LineLaws
pub mod Numerals
pub mod RoomLaws
pub mod Splits
pub mod WordLaws
