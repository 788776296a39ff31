pub use Rattle.run_book.specs.inner.Views
pub mod Rests
