pub mod SumLaws
pub mod CountLaws
pub mod ProcessorLaws
pub mod PagerLaws
pub mod OpeningLaws
