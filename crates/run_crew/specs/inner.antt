pub use Rattle.run_rounds.specs.inner.Views
pub mod Actors
pub mod Tallies
