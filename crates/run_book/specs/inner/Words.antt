-- The book of a run, and the words that say what its entries say.
use Rattle.std.specs.Prelude.{◌≡◌, length}
use Rattle.job_grammar.specs.inner.Valid.{IsValid}
use Rattle.run_course.specs.inner.Views.{BookView}
pub use Rattle.atomic_table.specs.Seated.{TableId}
use Rattle.epoch_notes.specs.inner.Notes.{NotesView, TellsEntries}

-- the book, and the words to which its seat belongs
pub record MachineView : Type 0 where
  pub book : BookView
  pub words : TableId

-- each word says how its enclave stands by the entries so far, and of each processor it is noted how it is inside
pub record KeepsWords (b : BookView) (n : NotesView) : Type 0 where
  pub valid : IsValid b.job
  pub tells : TellsEntries b.job.start_epoch b.past n
  pub cpus : length n.inside ≡ length b.job.scripts
  pub enclaves : n.words.words ≡ length b.job.enclaves
