-- What is supposed of an entry, so that the tables that show the entries before it show it too.
use Rattle.std.specs.Prelude.{ℕ, ◌≡◌, ◌≢◌, List}
use Rattle.sgx_rules.specs.declared.entries.Action.TheVariants.{Enter}
use Rattle.sgx_types.specs.declared.names.Actor.{Actor}
use Rattle.sgx_types.specs.declared.names.Actor.TheVariants as actors
use Rattle.sgx_rules.specs.declared.entries.Entry.{Entry}
use Rattle.sgx_rules.specs.declared.entries.Event.{Event}
use Rattle.sgx_rules.specs.declared.entries.Event.TheVariants.{Did}
use Rattle.sgx_rules.specs.Processors.{stay}
use Rattle.cached_translations.specs.declared.processor.Mode.{Mode}
use Rattle.job_grammar.specs.Jobs.{JobView}
use Rattle.machine_laws.specs.inner.Columns.{seat_of_stay}
use Rattle.sgx_machine.specs.inner.Parts.{seat_of_mode}
use Rattle.driver_rules.specs.Scripts.{ScriptRule}
use Rattle.driver_laws.specs.inner.Loads.{LoadsAreTheirs}
use Rattle.driver_laws.specs.inner.Three.{HoldsThree}

-- the entry's processor stood so before it
abbrev pub StoodSo : List Entry → Actor → Mode → Type 0
StoodSo past (actors.Cpu p) before = seat_of_mode before ≡ seat_of_stay (stay past p.0)
StoodSo past _ before = Unit {0}

pub record CanNote (j : JobView) (past : List Entry) (before : Mode) (e : Entry) : Type 0 where
  -- it is its actor's next, by the rules
  pub script : ScriptRule j past e
  pub stood : StoodSo past e.actor before
  -- each started load is one processor's
  pub theirs : LoadsAreTheirs past
  -- what each processor holds; with it, who was interrupted has still to resume
  pub three : (p : ℕ) → HoldsThree j past p

-- who enters names two frames
abbrev pub EntersApart : Event → Type 0
EntersApart (Did (Enter enclave tcs tf sf) answer) = tf.0 ≢ sf.0
EntersApart _ = Unit {0}
