pub mod Last
pub mod SpanLists
pub mod Listed
