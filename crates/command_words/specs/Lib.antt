pub mod Commands
pub mod Numbers
pub mod Questions
pub mod inner
