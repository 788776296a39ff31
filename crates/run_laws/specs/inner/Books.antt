-- What the book of a run keeps, and what an entry has to be, so that it goes on to.
use Rattle.std.specs.Prelude.{ℕ, ◌≡◌, false, List, ◌∷◌, Option, None, Some, IfSome}
use Rattle.sgx_rules.specs.declared.entries.Action.TheVariants.{EldStart}
use Rattle.sgx_rules.specs.declared.entries.Entry.{Entry}
use Rattle.sgx_rules.specs.declared.entries.Event.{Event}
use Rattle.sgx_rules.specs.declared.entries.Event.TheVariants.{Did}
use Rattle.sgx_rules.specs.Slots.{version_at}
use Rattle.sgx_rules.specs.Starts.{version_told}
use Rattle.sgx_types.specs.declared.names.Page.{Page}
use Rattle.sgx_types.specs.Making.{Making}
use Rattle.sgx_rules.specs.Rules.{Along}
use Rattle.sgx_rules.specs.inner.Enclaves.{EnclavesAreFlat}
use Rattle.job_grammar.specs.Jobs.{JobView}
use Rattle.backing_store.specs.Calls.{Call}
use Rattle.machine_laws.specs.inner.Columns.{HasAllVersions}
use Rattle.machine_laws.specs.inner.Histories.{StandsWithAllRules}
use Rattle.sgx_machine.specs.inner.Parts.{Parts, state_of}
use Rattle.driver_rules.specs.Ages.{KeptAgeRule, KickRule}
use Rattle.driver_rules.specs.Scripts.{ScriptRule}
use Rattle.driver_rules.specs.inner.Slotted.{SlotRule}
use Rattle.driver_laws.specs.inner.Three.{IsApart}
use Rattle.driver_laws.specs.inner.Tracking.{TrackingRule}
use Rattle.driver_tables.specs.declared.driver.Driver.{Driver}
use Rattle.driver_tables.specs.inner.Agrees.{Agrees}
use Rattle.driver_tables.specs.inner.Asked.{IsNextOf}
use Rattle.due_tables.specs.declared.turns.Turns.{Turns}
use Rattle.due_tables.specs.inner.Due.{IsOrderly}
use Rattle.due_tables.specs.inner.Entries.{EntersApart}
use Rattle.due_tables.specs.inner.Holding.{KeepsHolds}
use Rattle.due_tables.specs.inner.Shown.{ShowsTurns}
use Rattle.history_rules.specs.Calls.{before}
use Rattle.history_rules.specs.Given.{UnforgedRun, gift, made_in}
use Rattle.history_rules.specs.Honest.{IsHonest}
use Rattle.history_rules.specs.Stored.{TellsOfStore}
use Rattle.run_calls.specs.inner.Stores.{TellsStore}
use Rattle.run_calls.specs.inner.Comes.{Comes}
use Rattle.driver_rules.specs.Stops.{is_bus}
use Rattle.run_laws.specs.inner.Honest.{IsHonestBook, PutsArray}

-- where no record of the run was forged, the machine stands for the entries with all the rules that bytes decide
abbrev pub KeepsBytes : Making → JobView → List Entry → Parts → List Call → Type 0
KeepsBytes made j past m calls = UnforgedRun j.key past calls → StandsWithAllRules made (state_of m) past (made_in past calls)

-- where the store failed nothing and gave each page's last record put, each page came back
abbrev pub KeepsHonest : Making → List Entry → Parts → List Call → Type 0
KeepsHonest made past m calls = IsHonest calls → IsHonestBook made past m calls

-- driver, machine and the tables of what is due stand for the entries, which keep the rules
pub record KeepsBook (made : Making) (j : JobView) (past : List Entry) (told : Option (List Call)) (d : Driver) (m : Parts)
    (t : Turns) : Type 0 where
  -- driver and machine agree on the entries
  pub agrees : Agrees made j past d m
  -- what is due to the builder and to each processor is what the entries say
  pub turns : ShowsTurns j past t
  pub orderly : IsOrderly j past
  -- the holds are those of the entries, and each processor's are of three pages
  pub holds : KeepsHolds j d.active.own past
  pub apart : (p : ℕ) → IsApart j past p
  -- flat memory has each enclave and page as the entries made it
  pub flat : EnclavesAreFlat past
  -- each actor made its next entry, and the reclaimer's are of the pages that were due, by the slots that the driver keeps, within three
  -- tries
  pub script : Along (ScriptRule j) past
  pub age : Along (KeptAgeRule j) past
  pub kick : Along (KickRule j) past
  -- a write-out names a slot as the driver does
  pub slots : Along (SlotRule j) past
  -- who entered was outside, who left inside, and epochs began where no processor was older
  pub tracking : Along (TrackingRule made.first_epoch) past
  -- a store that tells its calls tells those of the entries
  pub store : IfSome told (λ calls. TellsStore j.key past calls d)
  pub bytes : IfSome told (KeepsBytes made j past m)
  pub honest : IfSome told (KeepsHonest made past m)

-- ---- one entry more

-- the store's calls behind an entry, where it tells them: the last is the one with which the entry comes, and the entry tells what is so
-- of its record
pub record IsTold (j : JobView) (past : List Entry) (e : Entry) (calls longer : List Call) (d d' : Driver) : Type 0 where
  pub comes : Comes e calls longer d d'
  pub tells : TellsOfStore j.key past (gift past (before e.event longer)) e.event longer

abbrev pub AreTold : JobView → List Entry → Entry → Option (List Call) → Option (List Call) → Driver → Driver → Type 0
AreTold j past e (Some calls) (Some longer) d d' = IsTold j past e calls longer d d'
AreTold j past e None None d d' = Unit {0}
AreTold j past e _ _ d d' = ⊥

-- where no record was forged till behind the entry, and the machine stood for the entries before it, it stands for them with it
abbrev pub CarriesBytes : Making → JobView → List Entry → Parts → Entry → Parts → List Call → Type 0
CarriesBytes made j past m e m' longer = UnforgedRun j.key (e ∷ past) longer
    → StandsWithAllRules made (state_of m) past (made_in past (before e.event longer))
    → StandsWithAllRules made (state_of m') (e ∷ past) (made_in (e ∷ past) longer)

-- what a load's start finds is what the entries say
abbrev pub FindsVersion : List Entry → Event → Type 0
FindsVersion past (Did (EldStart f page at) answer) = version_told answer ≡ version_at past at
FindsVersion past event = Unit {0}

-- an entry over an honest store, where the book was honest before it
pub record IsHonestEntry (made : Making) (past : List Entry) (m : Parts) (e : Entry) (m' : Parts) (longer : List Call) : Type 0 where
  pub back : IsHonestBook made past m (before e.event longer) → is_bus e.event ≡ false
  pub finds : IsHonestBook made past m (before e.event longer) → FindsVersion past e.event
  pub puts : IsHonestBook made past m (before e.event longer) → PutsArray made.key past e.event longer
  pub arrays : IsHonestBook made past m (before e.event longer) → HasAllVersions (state_of m') (e ∷ past)

-- an entry that was made, and what is so of it before its holds and the tables of what is due take it in
pub record IsMade (made : Making) (j : JobView) (past : List Entry) (told : Option (List Call)) (d : Driver) (m : Parts) (e : Entry)
    (told' : Option (List Call)) (d' : Driver) (m' : Parts) : Type 0 where
  -- it is its actor's next by the rules, and driver and machine go on with it
  pub next : IsNextOf made j past d m e d' m'
  -- who holds which pages is as before it
  pub own : d'.active.own ≡ d.active.own
  -- who enters names two frames
  pub enters : EntersApart e.event
  pub flat : EnclavesAreFlat (e ∷ past)
  -- so do the store's calls, and where no record was forged the machine with all the rules
  pub store : AreTold j past e told told' d d'
  pub bytes : IfSome told' (CarriesBytes made j past m e m')
  -- over an honest store it is none that tells why a page did not come back, and the slots of version array pages go on to be what the
  -- entries say
  pub honest : IfSome told' (λ calls. IsHonest calls → IsHonestEntry made past m e m' calls)

-- the tables with these holds
abbrev pub with_own : Driver → List (List Page) → Driver
with_own d own = record d { active = record d.active { own = own } }
