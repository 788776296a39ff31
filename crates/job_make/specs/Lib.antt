pub mod Generator
pub mod MadeOps
pub mod MadeJob
pub mod inner
