-- When the driver's tables can be brought to an instruction's entry, and what is so of them then.
use Rattle.std.specs.Prelude.{ℕ, ◌≡◌, ◌≤◌, true, false, List, ◌∷◌}
use Rattle.sgx_rules.specs.declared.entries.Action.{Action}
use Rattle.sgx_rules.specs.declared.entries.Action.TheVariants.{Add}
use Rattle.sgx_types.specs.declared.names.Actor.{Actor}
use Rattle.sgx_rules.specs.declared.entries.Entry.{Entry}
use Rattle.sgx_rules.specs.declared.entries.Event.{Event}
use Rattle.sgx_rules.specs.declared.entries.Event.TheVariants.{Did}
use Rattle.sgx_types.specs.Pages.{secs_page}
use Rattle.cached_translations.specs.declared.processor.Mode.{Mode}
use Rattle.job_grammar.specs.Jobs.{JobView}
use Rattle.backing_store.specs.Calls.{Call}
use Rattle.driver_slots.specs.inner.Keeper.{count_out}
use Rattle.machine_laws.specs.inner.Steps.{IsStep}
use Rattle.sgx_machine.specs.inner.Parts.{Parts, state_of}
use Rattle.driver_rules.specs.Places.{is_here, place}
use Rattle.driver_rules.specs.Scripts.{ScriptRule}
use Rattle.driver_laws.specs.inner.Agrees.{Keeping}
use Rattle.driver_laws.specs.inner.Counted.{CountMoves}
use Rattle.driver_laws.specs.inner.Used.{VersionsStand}
use Rattle.driver_tables.specs.declared.driver.Driver.{Driver}
use Rattle.driver_tables.specs.inner.Tables.{ShowsTables}
use Rattle.run_calls.specs.inner.Stores.{StoreMoves}
use Rattle.due_tables.specs.declared.turns.Turns.{Turns}
use Rattle.due_tables.specs.inner.Due.{IsOrderly, IsShown}
use Rattle.due_tables.specs.inner.Holding.{mode_of}
use Rattle.due_tables.specs.inner.Shown.{ShowsTurns}
use Rattle.due_notes.specs.inner.Arrays.{KeepsKeeper}
use Rattle.due_notes.specs.inner.Noting.{first_slot}
use Rattle.due_notes.specs.inner.Plain.{is_plain, is_reclaimer}

-- a page is added while the SECS of its enclave is here
abbrev pub HasSecsHere : List Entry → Event → Type 0
HasSecsHere past (Did (Add enclave number f kind perm init) answer) = is_here (place past (secs_page enclave)) ≡ true
HasSecsHere past event = Unit {0}

-- the keeper of the slots has those of version array page 0 from this one on, and all of each other page
pub record KeepsFrom (k : Keeping) (first : ℕ) : Type 0 where
  pub firsts : (va : ℕ) → k.firsts va ≡ first_slot first va
  pub within : first ≤ 512

-- an instruction of the builder or of a processor that moves no page out or back, before which the processor stood so
pub record CanNoteTables (t : Turns) (d : Driver) (first : ℕ) (before : Mode) (e : Entry) : Type 0 where
  pub keeping : Keeping
  pub keeps : KeepsFrom keeping first
  pub j : JobView
  pub past : List Entry
  -- the machine before and behind it
  pub m : Parts
  pub m' : Parts
  pub actor : Actor
  pub action : Action
  pub plain : is_plain action ≡ true
  pub other : is_reclaimer actor ≡ false
  pub step : IsStep (state_of m) actor action e (state_of m')
  pub script : ScriptRule j past e
  pub secs : HasSecsHere past e.event
  pub stood : before ≡ mode_of m e.actor
  -- driver, machine and the tables of what is due stand for the entries before it
  pub shown : IsShown keeping j past d m
  pub stand : VersionsStand past
  pub shows : ShowsTurns j past t
  pub orderly : IsOrderly j past
  pub arrays : KeepsKeeper j d.slots past

-- the tables behind the entry
pub record AreNoted (k : Keeping) (j : JobView) (past : List Entry) (old : Driver) (e : Entry) (new : Driver) : Type 0 where
  -- they show it
  pub shows : ShowsTables k j new (e ∷ past)
  -- as many slots are out, and who holds which pages is as before
  pub counts : CountMoves past e.event (count_out old.slots) (count_out new.slots)
  pub own : new.active.own ≡ old.active.own
  -- no record is kept or dropped, and no page is lost or found, whatever calls of the store it comes with
  pub moves : (calls : List Call) → StoreMoves e calls old new
  pub arrays : KeepsKeeper j new.slots (e ∷ past)
