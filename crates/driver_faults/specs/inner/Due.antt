-- The answer of a fault step by the rules, and what its entry leaves.
use Rattle.std.specs.Prelude.{◌≡◌, true, false, List, ◌∷◌, None}
use Rattle.sgx_types.specs.declared.names.Actor.TheVariants as actors
use Rattle.sgx_rules.specs.declared.entries.Entry.{Entry}
use Rattle.sgx_rules.specs.declared.entries.BusWhy.TheVariants as reasons
use Rattle.sgx_rules.specs.declared.entries.Event.TheVariants.{Bus}
use Rattle.sgx_rules.specs.declared.entries.Action.TheVariants.{Eld}
use Rattle.sgx_types.specs.declared.names.Cpu.{Cpu}
use Rattle.sgx_types.specs.declared.names.Frame.{Frame}
use Rattle.sgx_types.specs.declared.names.Page.{Page}
use Rattle.sgx_rules.specs.inner.Rules.{LoadsAwayRule}
use Rattle.job_grammar.specs.Jobs.{JobView}
use Rattle.driver_rules.specs.declared.waits.Why.{Why}
use Rattle.driver_rules.specs.declared.waits.Why.TheVariants as waits
use Rattle.driver_rules.specs.Dues.{Asks, Due, Ends, Fetches, IsNext, Waits, WaitsFor}
use Rattle.driver_rules.specs.Places.{is_here, place}
use Rattle.driver_rules.specs.inner.Reclaims.{is_refused}
use Rattle.driver_rules.specs.Turns.{Fails, fetches, last_of}
use Rattle.driver_laws.specs.inner.Agrees.{drivers, loaded_by}
use Rattle.driver_laws.specs.inner.Kinds.{CanMove}
use Rattle.driver_tables.specs.declared.driver.Driver.{Driver}
use Rattle.driver_tables.specs.inner.Tables.{ShowsTables}
use Rattle.driver_faults.specs.declared.answers.Loaded.{Loaded}
use Rattle.driver_faults.specs.declared.answers.Loaded.TheVariants as ends
use Rattle.driver_faults.specs.declared.answers.FaultAnswer.{FaultAnswer}
use Rattle.driver_faults.specs.declared.answers.FaultAnswer.TheVariants as answers

-- what the rules give for a page that is needed
abbrev pub fetch_of : JobView → List Entry → Page → Due
fetch_of j past page = fetches j.epc past page (place past page)

-- why nothing can be done yet: another page has to be back before, and is not outside; without a free frame nothing is asked
abbrev pub WaitsBy : Due → Why → Type 0
WaitsBy (Waits why) said = said ≡ why
WaitsBy (Fetches g (WaitsFor target)) said = said ≡ waits.Busy target
WaitsBy (Fetches g (Asks target slot None)) said = said ≡ waits.NoFrame
WaitsBy due said = ⊥

-- the answer is what is due: nothing where the page is here, and else a wait with its reason, the entry of a bus for the page that is
-- asked for, or a load's start, which is not refused, or by whose refusal the bus for that page is due next
abbrev pub IsAnswer : JobView → List Entry → Cpu → Page → Page → FaultAnswer → Type 0
IsAnswer j past cpu page asked answers.Here = is_here (place past page) ≡ true
IsAnswer j past cpu page asked (answers.Again why) = (is_here (place past page) ≡ false) × WaitsBy (fetch_of j past page) why
IsAnswer j past cpu page asked (answers.Bus why) = (is_here (place past page) ≡ false) × IsNext (fetch_of j past page) (Bus asked why)
IsAnswer j past cpu page asked (answers.Started e work) = (is_here (place past page) ≡ false) × (e.actor ≡ actors.Cpu cpu)
    × IsNext (fetch_of j past page) e.event × (is_refused e.event ≡ false)
IsAnswer j past cpu page asked (answers.Slot e) = (is_here (place past page) ≡ false) × (e.actor ≡ actors.Cpu cpu)
    × IsNext (fetch_of j past page) e.event × (last_of (e ∷ past) cpu.0 ≡ Fails asked reasons.Slot)

-- the entry of an answer can move its page, and loads only what is away
abbrev pub KeepsFault : List Entry → FaultAnswer → Type 0
KeepsFault past (answers.Started e work) = CanMove past e.event × LoadsAwayRule past e
KeepsFault past (answers.Slot e) = CanMove past e.event × LoadsAwayRule past e
KeepsFault past answer = Unit {0}

-- the tables behind an answer's entry, and behind the bus that follows a refused start
abbrev pub ShowsAfterFault : JobView → List Entry → Cpu → Page → FaultAnswer → Driver → Type 0
ShowsAfterFault j past cpu asked (answers.Started e work) d = ShowsTables (drivers j) j d (e ∷ past)
ShowsAfterFault j past cpu asked (answers.Bus why) d =
    ShowsTables (drivers j) j d (record { actor = actors.Cpu cpu; event = Bus asked why } ∷ past)
ShowsAfterFault j past cpu asked (answers.Slot e) d =
    ShowsTables (drivers j) j d (e ∷ past)
    × ShowsTables (drivers j) j d (record { actor = actors.Cpu cpu; event = Bus asked reasons.Slot } ∷ e ∷ past)
ShowsAfterFault j past cpu asked answer d = ShowsTables (drivers j) j d past

-- an answer by the rules: it is what is due, its entry can move its page, and the tables show that entry too, where this processor has no
-- load to end
pub record IsRight (j : JobView) (past : List Entry) (cpu : Cpu) (page asked : Page) (answer : FaultAnswer) (d : Driver) : Type 0 where
  pub due : IsAnswer j past cpu page asked answer
  pub kept : KeepsFault past answer
  pub shows : loaded_by (last_of past cpu.0) ≡ None → ShowsAfterFault j past cpu asked answer d

-- the end of a load by the rules: a load that is back, or a refusal by which the bus is due next
abbrev pub EndsLoadAt : List Entry → Cpu → Page → Frame → Entry → Loaded → Type 0
EndsLoadAt past cpu page frame e (ends.Here entry) = (entry ≡ e) × (is_refused e.event ≡ false)
EndsLoadAt past cpu page frame e (ends.Bus entry why) = (entry ≡ e) × (last_of (e ∷ past) cpu.0 ≡ Fails page why)

-- the tables behind its entry, and behind the bus that follows a refusal
abbrev pub ShowsEnd : JobView → List Entry → Cpu → Page → Loaded → Driver → Type 0
ShowsEnd j past cpu page (ends.Here e) d = ShowsTables (drivers j) j d (e ∷ past)
ShowsEnd j past cpu page (ends.Bus e why) d =
    ShowsTables (drivers j) j d (e ∷ past)
    × ShowsTables (drivers j) j d (record { actor = actors.Cpu cpu; event = Bus page why } ∷ e ∷ past)

pub record IsRightEnd (j : JobView) (past : List Entry) (cpu : Cpu) (page : Page) (frame : Frame) (loaded : Loaded)
    (d : Driver) : Type 0 where
  pub entry : Entry
  pub actor : entry.actor ≡ actors.Cpu cpu
  pub due : IsNext (Ends (Eld frame)) entry.event
  pub end : EndsLoadAt past cpu page frame entry loaded
  pub kept : CanMove past entry.event
  pub shows : ShowsEnd j past cpu page loaded d
