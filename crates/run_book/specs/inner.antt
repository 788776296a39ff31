pub use Rattle.run_course.specs.inner.Views
pub mod Words
