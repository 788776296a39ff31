pub mod MapLaws
pub mod LastLaws
pub mod SpanWrites
