-- What each turn asks, and what it answers.
use Rattle.std.specs.Prelude.{ℕ, zero, suc, ◌≡◌, ◌==◌, ◌⊎◌, ◌<◌, ◌≤◌, Bool, true, false, List, [], ◌∷◌, Option, None}
use Rattle.std.specs.Prelude.{Some, IfSome, length, vec_capacity}
use Rattle.sgx_rules.specs.declared.entries.Action.{Action}
use Rattle.sgx_rules.specs.declared.entries.Action.TheVariants.{Eld, Ewb}
use Rattle.sgx_types.specs.declared.names.Actor.{Actor}
use Rattle.sgx_types.specs.declared.names.Actor.TheVariants as actors
use Rattle.sgx_rules.specs.declared.entries.Entry.{Entry}
use Rattle.sgx_rules.specs.declared.entries.Event.{Event}
use Rattle.sgx_rules.specs.declared.entries.BusWhy.TheVariants as reasons
use Rattle.sgx_rules.specs.declared.entries.Event.TheVariants.{Bus, Did, Refused}
use Rattle.sgx_types.specs.declared.names.Cpu.{Cpu}
use Rattle.std.specs.Global.{Box}
use Rattle.seal_record.specs.declared.seal.SealWork.{SealWork}
use Rattle.seal_record.specs.declared.unseal.UnsealWork.{UnsealWork}
use Rattle.backing_store.specs.Calls.{Call}
use Rattle.job_grammar.specs.Jobs.{JobView}
use Rattle.sgx_types.specs.Pages.{is_own_page}
use Rattle.sgx_machine.specs.inner.Parts.{state_of}
use Rattle.driver_rules.specs.declared.waits.Why.{Why}
use Rattle.driver_rules.specs.declared.waits.Why.TheVariants as waits
use Rattle.driver_rules.specs.Dues.{Asks, Due, Fetches, Finished, KicksAll, LooksAt, Makes, Stopped, TriesOut, Waits, WaitsFor}
use Rattle.driver_rules.specs.inner.Reclaims.{reclaimer_due_by}
use Rattle.driver_rules.specs.Spares.{outs_kept}
use Rattle.driver_rules.specs.Stops.{is_spent}
use Rattle.driver_rules.specs.inner.Slotted.{occupied}
use Rattle.driver_rules.specs.inner.Stops.{started}
use Rattle.driver_rules.specs.Turns.{builder_due, cpu_due, last_of}
use Rattle.driver_laws.specs.inner.Agrees.{loaded_by}
use Rattle.driver_faults.specs.inner.Repeating.{IsAgain}
use Rattle.history_rules.specs.Calls.{is_lost}
use Rattle.driver_reclaim.specs.inner.Stored.{IsToSeal}
use Rattle.driver_pass.specs.inner.Viewed.{is_kicked, is_sealing}
use Rattle.run_course.specs.declared.course.Course.{Course}
use Rattle.run_course.specs.declared.turn.Turn.{Turn}
use Rattle.run_course.specs.declared.turn.Turn.TheVariants as turns
use Rattle.run_course.specs.inner.Courses.{Grows, IsSame, KeepsCourse, past_of}

-- ---- what is asked

-- a course that keeps what it has to, over a store that tells these calls and has so many places
pub record CanTurn (c : Course) : Type 0 where
  pub told : Option (List Call)
  pub spare : ℕ
  pub keeps : KeepsCourse c told spare

-- an instruction is due to an actor
abbrev pub IsDueTo : Course → Actor → Action → Type 0
IsDueTo c actors.Builder action = builder_due c.job (past_of c) ≡ Makes action
IsDueTo c (actors.Cpu cpu) action = (cpu.0 < length c.job.scripts) × (cpu_due c.job (past_of c) cpu.0 ≡ Makes action)
IsDueTo c actors.Reclaimer action = ⊥

pub record CanInstruct (c : Course) (actor : Actor) (action : Action) : Type 0 where
  pub told : Option (List Call)
  pub spare : ℕ
  pub keeps : KeepsCourse c told spare
  pub due : IsDueTo c actor action

-- ---- what is answered

-- a reason to wait is the one that is due; a page that has to be back first is waited for where it is on its way, and without a free
-- frame nothing is asked of the store
abbrev pub IsWaitBy : Due → Why → Type 0
IsWaitBy (Waits why) said = said ≡ why
IsWaitBy (Fetches page (WaitsFor target)) said = said ≡ waits.Busy target
IsWaitBy (Fetches page (Asks target slot None)) said = said ≡ waits.NoFrame
IsWaitBy due said = ⊥

-- who waits for a free frame needs a page that is not lost, nor is the one that has to be back first, where the store tells its calls
abbrev pub IsNotLost : Option (List Call) → Due → Type 0
IsNotLost told (Fetches page (Asks target slot None)) =
    IfSome told (λ calls. (is_lost calls page ≡ false) × (is_lost calls target ≡ false))
IsNotLost told due = Unit {0}

-- the reclaimer waits besides for a slot, where a page is to go out and none is left. It is so only where a try found its slot in use
abbrev pub IsReclaimerWait : JobView → List Entry → Due → Why → Type 0
IsReclaimerWait j past (TriesOut page f) said = (said ≡ waits.NoSlot) × (is_own_page page ≡ true) × (1 ≤ occupied past)
IsReclaimerWait j past due said = IsWaitBy due said

-- a turn of the builder
abbrev pub IsBuilderTurn : Course → Turn → Course → Option (List Call) → ℕ → Type 0
IsBuilderTurn old (turns.Did n) new told spare = (n ≡ 1) × Grows old actors.Builder 1 new told spare
IsBuilderTurn old (turns.Again why) new told spare = IsWaitBy (builder_due old.job (past_of old)) why × IsSame old new
IsBuilderTurn old turns.Finished new told spare = (builder_due old.job (past_of old) ≡ Finished) × IsSame old new
IsBuilderTurn old turns.Stopped new told spare = (builder_due old.job (past_of old) ≡ Stopped) × IsSame old new
IsBuilderTurn old _ new told spare = ⊥

-- the work of a processor's started load: its kept record, under the machine's key and the version that its start found
abbrev pub OpensFor : Course → Cpu → Box UnsealWork → Type 0
OpensFor c cpu work = IsAgain cpu c.driver c.machine (Some work)

-- one entry, and two where the newest tells that the start of a load, before it, found no version in its slot
abbrev pub RunsBy : ℕ → Event → Type 0
RunsBy n (Bus page reasons.Slot) = n ≡ 2
RunsBy n event = n ≡ 1

abbrev pub RunsMany : ℕ → List Entry → Type 0
RunsMany n [] = ⊥
RunsMany n (e ∷ past) = RunsBy n e.event

-- a turn of a processor. By entries it starts nothing; or a load has started in it, or was open before
abbrev pub IsCpuTurn : Course → Cpu → Turn → Course → Option (List Call) → ℕ → Type 0
IsCpuTurn old cpu (turns.Did n) new told spare =
    RunsMany n (past_of new) × (started (past_of new) (actors.Cpu cpu) ≡ false) × Grows old (actors.Cpu cpu) n new told spare
IsCpuTurn old cpu (turns.Unseal work) new told spare =
    OpensFor new cpu work × (Grows old (actors.Cpu cpu) 1 new told spare ⊎ IsSame old new)
IsCpuTurn old cpu (turns.Again why) new told spare =
    IsWaitBy (cpu_due old.job (past_of old) cpu.0) why × IsNotLost told (cpu_due old.job (past_of old) cpu.0) × IsSame old new
IsCpuTurn old cpu turns.Finished new told spare = (cpu_due old.job (past_of old) cpu.0 ≡ Finished) × IsSame old new
IsCpuTurn old cpu turns.Stopped new told spare = (cpu_due old.job (past_of old) cpu.0 ≡ Stopped) × IsSame old new
IsCpuTurn old cpu _ new told spare = ⊥

-- a load is refused
abbrev pub RefusesLoad : Event → Type 0
RefusesLoad (Refused (Eld f) refusal) = Unit {0}
RefusesLoad event = ⊥

abbrev pub IsRefusedLoad : List Entry → Type 0
IsRefusedLoad [] = ⊥
IsRefusedLoad (e ∷ past) = RefusesLoad e.event

-- the newest of so many entries ends a load: its page came back by the only one, or it was refused, and by the second it is told why
abbrev pub EndsBy : ℕ → Event → List Entry → Type 0
EndsBy n (Did (Eld f) answer) past = n ≡ 1
EndsBy n (Bus page why) past = (n ≡ 2) × IsRefusedLoad past
EndsBy n event past = ⊥

abbrev pub EndsLoad : ℕ → List Entry → Type 0
EndsLoad n [] = ⊥
EndsLoad n (e ∷ past) = EndsBy n e.event past

-- the end of a processor's started load
abbrev pub IsOpened : Course → Cpu → Turn → Course → Option (List Call) → ℕ → Type 0
IsOpened old cpu (turns.Did zero) new told spare = (loaded_by (last_of (past_of old) cpu.0) ≡ None) × IsSame old new
IsOpened old cpu (turns.Did (suc n)) new told spare =
    EndsLoad (suc n) (past_of new) × Grows old (actors.Cpu cpu) (suc n) new told spare
IsOpened old cpu turns.Stopped new told spare = (is_spent (past_of old) ≡ true) × IsSame old new
IsOpened old cpu _ new told spare = ⊥

-- what the reclaimer does next, by the slots that the driver keeps as out
abbrev pub due_of : Course → Due
due_of c = reclaimer_due_by c.job (past_of c) (outs_kept c.job (past_of c)) (is_kicked c.pass)

-- the work of the started write-out: the bytes and the header of its page, under the machine's key and the version that its start drew
abbrev pub SealsFor : Course → SealWork → Type 0
SealsFor c work = IsToSeal c.pass (state_of c.machine) work.key work.version work.header work.plain.items

-- nothing has changed, but that there may be more room, and that the machine may keep its state in another way
pub record IsAtRest (old new : Course) : Type 0 where
  pub job : new.job ≡ old.job
  pub state : state_of new.machine ≡ state_of old.machine
  pub driver : new.driver ≡ old.driver
  pub turns : new.turns ≡ old.turns
  pub pass : new.pass ≡ old.pass
  pub entries : new.entries.items ≡ old.entries.items
  pub room : vec_capacity old.entries ≤ vec_capacity new.entries

-- so many entries a turn of the reclaimer makes: one for each processor that is due to be kicked, and else one
abbrev pub MakesMany : Due → ℕ → Type 0
MakesMany (Makes action) n = n ≡ 1
MakesMany (LooksAt page held young) n = n ≡ 1
MakesMany (TriesOut page f) n = n ≡ 1
MakesMany (KicksAll cpus) n = n ≡ length cpus
MakesMany due n = ⊥

-- the turn of kicks was made, and found nobody to kick: it was that turn, or one before
abbrev pub KicksBy : Due → Bool → Bool → Type 0
KicksBy (KicksAll cpus) before behind = behind ≡ (length cpus == 0)
KicksBy due before behind = behind ≡ true → before ≡ true

-- a turn of the reclaimer. By entries it starts nothing; or a write-out has started in it, or was open before
abbrev pub IsReclaimerTurn : Course → Turn → Course → Option (List Call) → ℕ → Type 0
IsReclaimerTurn old (turns.Did n) new told spare =
    MakesMany (due_of old) n × KicksBy (due_of old) (is_kicked old.pass) (is_kicked new.pass)
    × (started (past_of new) actors.Reclaimer ≡ false) × Grows old actors.Reclaimer n new told spare
IsReclaimerTurn old (turns.Seal work) new told spare =
    SealsFor new work.value × (Grows old actors.Reclaimer 1 new told spare ⊎ IsSame old new)
IsReclaimerTurn old (turns.Again why) new told spare = IsReclaimerWait old.job (past_of old) (due_of old) why × IsAtRest old new
IsReclaimerTurn old turns.Finished new told spare = (due_of old ≡ Finished) × IsSame old new
IsReclaimerTurn old turns.Stopped new told spare = (is_spent (past_of old) ≡ true) × IsSame old new
IsReclaimerTurn old _ new told spare = ⊥

-- the newest entry ends a write-out
abbrev pub WritesOut : Event → Type 0
WritesOut (Did (Ewb f) answer) = Unit {0}
WritesOut event = ⊥

abbrev pub EndsOut : List Entry → Type 0
EndsOut [] = ⊥
EndsOut (e ∷ past) = WritesOut e.event

-- the end of the started write-out
abbrev pub IsSealed : Course → Turn → Course → Option (List Call) → ℕ → Type 0
IsSealed old (turns.Did zero) new told spare = (is_sealing old.pass ≡ false) × IsSame old new
IsSealed old (turns.Did (suc n)) new told spare =
    (n ≡ 0) × EndsOut (past_of new) × (is_kicked new.pass ≡ false) × Grows old actors.Reclaimer 1 new told spare
IsSealed old turns.Stopped new told spare = (is_spent (past_of old) ≡ true) × IsSame old new
IsSealed old _ new told spare = ⊥
