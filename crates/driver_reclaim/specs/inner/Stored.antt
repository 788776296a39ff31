-- The end of a write-out, and its record's way into the store.
use Rattle.std.specs.Prelude.{ℕ, ◌≡◌, ◌∷◌, ◌++◌, Bool, true, List, Option, Some}
use Rattle.std.specs.Option.{IsSomeAnd, option_map}
use Rattle.sgx_types.specs.declared.names.Frame.{Frame}
use Rattle.sgx_types.specs.declared.names.Actor.TheVariants as actors
use Rattle.sgx_rules.specs.declared.entries.Entry.{Entry}
use Rattle.sgx_rules.specs.inner.Starts.{BareStart}
use Rattle.sgx_types.specs.declared.record.Header.{Header}
use Rattle.sgx_types.specs.Making.{Making}
use Rattle.sgx_types.specs.Sealed.{Sealed}
use Rattle.seal_record.specs.Records.{Made}
use Rattle.io_edges.specs.inner.Faults.{HasCause}
use Rattle.backing_store.specs.Calls.{Call, Put}
use Rattle.backing_store.specs.inner.Calls.{with_call}
use Rattle.driver_list.specs.inner.Places.{IsPlaced, PageCounts}
use Rattle.driver_list.specs.inner.States.{with_state}
use Rattle.machine_laws.specs.inner.Columns.{HasAllVersions}
use Rattle.machine_laws.specs.inner.Histories.{given_out, GivesArray, StandsWithAllRules}
use Rattle.machine_laws.specs.inner.Shape.{ShapeWithRules}
use Rattle.machine_laws.specs.inner.State.{State}
use Rattle.machine_laws.specs.inner.Steps.{IsWrittenOut, SealsPage}
use Rattle.driver_tables.specs.declared.driver.Driver.{Driver}
use Rattle.driver_tables.specs.inner.Moves.{gone}
use Rattle.driver_pass.specs.declared.stages.Taken.{Taken}
use Rattle.driver_pass.specs.inner.Viewed.{PassView, sealing_in}

-- the write-out of a page has started, and the page has a place in the tables
pub record StartsOut (one : Taken) (s : State) (counts : PageCounts) : Type 0 where
  pub leaving : s.is_sealing one.frame.0 ≡ true
  pub start : BareStart
  pub opened : s.start one.frame.0 ≡ Some start
  pub placed : IsPlaced counts one.page

abbrev pub IsStartedPass : PassView → State → PageCounts → Type 0
IsStartedPass v s counts = IsSomeAnd (sealing_in v) (λ one. StartsOut one s counts)

abbrev pub IsOpen : PassView → State → Type 0
IsOpen v s = IsSomeAnd (sealing_in v) (λ one. s.is_sealing one.frame.0 ≡ true)

-- what is sealed of it
abbrev pub IsToSeal : PassView → State → List ℕ → ℕ → Header → List ℕ → Type 0
IsToSeal v s key version header plain = IsSomeAnd (sealing_in v) (λ one. SealsPage s one.frame.0 key version header plain)

-- the frame whose page has started to go out
abbrev pub frame_sealing : PassView → Option Frame
frame_sealing v = option_map (λ (one : Taken). one.frame) (sealing_in v)

-- the page is out by the commit, and then its record is put
pub record IsStored (one : Taken) (s : State) (old : Driver) (told : Option (List Call)) (before : ℕ) (e : Entry)
    (t : State) (new : Driver) (told' : Option (List Call)) (after : ℕ) : Type 0 where
  pub rec : Sealed
  pub out : IsWrittenOut s actors.Reclaimer one.frame e rec t
  pub history : (making : Making) (past : List Entry) (records : List Made) → StandsWithAllRules making s past records
      → StandsWithAllRules making t (e ∷ past) (records ++ given_out e.event rec)
  -- the record of a version array page is the one of its slots
  pub array : (making : Making) (past : List Entry) → ShapeWithRules making s past → HasAllVersions s past
      → GivesArray making.key past e.event rec
  pub failed : Bool
  pub call : told' ≡ with_call (Put one.page rec failed) told
  -- the store's count of faults
  pub cause : HasCause before after (failed ≡ true)
  -- the page is away in the slot of its start, or lost where its put failed
  pub start : BareStart
  pub opened : s.start one.frame.0 ≡ Some start
  pub tables : new ≡ record old { states = with_state old.states one.page (gone start.slot failed) }

abbrev pub StoredSays : PassView → State → Driver → Option (List Call) → ℕ → Entry → State → Driver → Option (List Call) → ℕ → Type 0
StoredSays v s old told before e t new told' after =
    IsSomeAnd (sealing_in v) (λ one. IsStored one s old told before e t new told' after)

-- the slots of version array pages go on to have the versions that the entries say
abbrev pub KeepsArrays : State → Entry → State → Type 0
KeepsArrays s e t =
    (making : Making) (past : List Entry) → ShapeWithRules making s past → HasAllVersions s past → HasAllVersions t (e ∷ past)
