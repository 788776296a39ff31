pub mod Tests
pub mod Tally
pub mod TallyText
pub mod inner
