-- What a turn leaves to its actor, and what it keeps.
use Rattle.std.specs.Prelude.{ℕ, ◌≡◌, ◌<◌, false, is_some}
use Rattle.driver_rules.specs.Dues.{Finished}
use Rattle.driver_rules.specs.Stops.{is_spent}
use Rattle.driver_rules.specs.Turns.{builder_due, cpu_due}
use Rattle.run_book.specs.inner.Views.{BookView}
use Rattle.run_book.specs.inner.Words.{MachineView}

-- a book of the same job and of the same words, to which no refused memory was told. A store that tells its calls goes on to
pub record IsSameRun (old new : MachineView) : Type 0 where
  pub job : new.book.job ≡ old.book.job
  pub words : new.words ≡ old.words
  pub out_of_memory : new.book.out_of_memory ≡ false
  pub tells : is_some new.book.told ≡ is_some old.book.told

-- the builder has nothing more to do, unless the run was stopped
abbrev pub BuilderRests : BookView → Type 0
BuilderRests b = is_spent b.past ≡ false → builder_due b.job b.past ≡ Finished

-- .. or a processor has not
abbrev pub CpuRests : BookView → ℕ → Type 0
CpuRests b p = is_spent b.past ≡ false → cpu_due b.job b.past p ≡ Finished

-- .. or so many from number 0 on
abbrev pub CpusRest : BookView → ℕ → Type 0
CpusRest b n = (p : ℕ) → p < n → CpuRests b p
