pub mod BareLaws
pub mod FitLaws
pub mod LineReads
pub mod ReadLaws
pub mod DigestLaws
pub mod WordReads
