-- The book as its callers see it, and what is so of every book.
use Rattle.std.specs.Prelude.{ℕ, zero, suc, ◌≡◌, ◌<◌, ◌++◌, ◌⊎◌, All, Bool, true, false, if◌then◌else◌, List}
use Rattle.std.specs.Prelude.{Option, None, Some, IfSome, is_some, length}
use Rattle.std.specs.Option.{IsSomeAnd}
use Rattle.sgx_types.specs.declared.names.Actor.{Actor}
use Rattle.sgx_types.specs.declared.names.Actor.TheVariants as actors
use Rattle.sgx_rules.specs.declared.entries.Entry.{Entry}
use Rattle.sgx_types.specs.declared.names.Cpu.{Cpu}
use Rattle.sgx_types.specs.declared.names.Page.{Page}
use Rattle.sgx_rules.specs.PageBytes.{bytes_at, header_at}
use Rattle.sgx_rules.specs.Frames.{content, page_there}
use Rattle.sgx_rules.specs.Rules.{Along, EvictRule, Fits, RisingRule, Stale}
use Rattle.sgx_rules.specs.Starts.{Start, open_start}
use Rattle.io_edges.specs.declared.plans.PlanLine.{PlanLine}
use Rattle.job_grammar.specs.Jobs.{JobView}
use Rattle.backing_store.specs.Calls.{Call}
use Rattle.seal_record.specs.declared.seal.SealWork.{SealWork}
use Rattle.seal_record.specs.declared.unseal.UnsealWork.{UnsealWork}
use Rattle.driver_rules.specs.Ages.{KeptAgeRule, KickRule}
use Rattle.driver_rules.specs.Dues.{Due, Finished}
use Rattle.driver_rules.specs.inner.Reclaims.{reclaimer_due_by}
use Rattle.driver_rules.specs.Spares.{outs_kept}
use Rattle.driver_rules.specs.Scripts.{IsEnded, ScriptRule}
use Rattle.driver_rules.specs.Stops.{has_loss, is_spent, last_event}
use Rattle.driver_rules.specs.inner.Stops.{frame_started, started}
use Rattle.driver_rules.specs.Turns.{Loads, builder_due, cpu_due, last_of}
use Rattle.driver_laws.specs.inner.Agrees.{loaded_by}
use Rattle.driver_laws.specs.inner.Tracking.{TrackingRule}
use Rattle.history_rules.specs.Given.{UnforgedRun, gift}
use Rattle.history_rules.specs.inner.Histories.{GoesOn}
use Rattle.history_rules.specs.Honest.{IsHonest}
use Rattle.history_rules.specs.Stored.{PutsAreFlat, StoreTrue}
use Rattle.driver_rules.specs.Spent.{SpentRule}
use Rattle.run_course.specs.declared.turn.Turn.{Turn}
use Rattle.run_course.specs.declared.turn.Turn.TheVariants as turns
use Rattle.run_course.specs.inner.Courses.{KeepsKicks}
use Rattle.run_course.specs.inner.Turns.{EndsLoad, EndsOut, IsNotLost, IsReclaimerWait, IsWaitBy, KicksBy, MakesMany}
use Rattle.run_course.specs.inner.Turns.{RunsMany}

-- the job, the entries so far, the newest first, what the store tells, whether memory was refused to a worker, and what no entry tells
pub record BookView : Type 0 where
  pub job : JobView
  pub past : List Entry
  pub told : Option (List Call)
  pub plans : List PlanLine
  pub out_of_memory : Bool
  -- the reclaimer's pass is behind its turn of kicks. Where that had nobody to kick, no entry tells it
  pub kicked : Bool

-- nothing more is done
abbrev pub is_stopped : BookView → Bool
is_stopped b = if b.out_of_memory then true else is_spent b.past

-- a turn answers that nothing is done any more
abbrev pub tells_stop : Turn → Bool
tells_stop turns.Stopped = true
tells_stop _ = false

-- whatever the store gave: who makes which entry, the reclaimer's looks and kicks, who is inside since which epoch, no frame twice, no
-- stale translation, only drained pages go out, versions rise, none is refused before the last one, nor an epoch, and the store's calls
-- are those of the entries
pub record HoldsAnyhow (b : BookView) : Type 0 where
  pub script : Along (ScriptRule b.job) b.past
  -- .. by the slots that the driver keeps as out
  pub age : Along (KeptAgeRule b.job) b.past
  pub kick : Along (KickRule b.job) b.past
  pub tracking : Along (TrackingRule b.job.start_epoch) b.past
  pub fits : Fits b.job.epc b.past
  pub stale : Stale b.past
  pub evict : Along EvictRule b.past
  pub rising : Along (RisingRule b.job.start_version) b.past
  pub spent : Along (SpentRule b.job) b.past
  pub store : StoreTrue b.job b.past b.plans b.told
  -- where the builder and each processor have nothing more to do, the run is at its end
  pub ended : builder_due b.job b.past ≡ Finished → ((p : ℕ) → p < length b.job.scripts → cpu_due b.job b.past p ≡ Finished)
      → IsEnded b.job b.past
  -- where the store failed nothing and gave each page's last record put, each page came back
  pub honest : IfSome b.told (λ calls. IsHonest calls → has_loss b.past ≡ false)

-- where no record of the run was forged: all eleven rules, and each record that was put has the flat bytes of its page there
abbrev pub HoldsUnforged : BookView → List Call → Type 0
HoldsUnforged b calls = UnforgedRun b.job.key b.past calls → GoesOn b.job b.past × PutsAreFlat b.job.key b.past calls

pub record Holds (b : BookView) : Type 0 where
  pub anyhow : HoldsAnyhow b
  pub unforged : IfSome b.told (HoldsUnforged b)

-- so many entries more, all of this actor, of one job; whether memory was refused to a worker is as before, and a store that tells its
-- calls goes on to
pub record HasGrown (old : BookView) (by : Actor) (n : ℕ) (new : BookView) : Type 0 where
  pub entries : List Entry
  pub count : length entries ≡ n
  pub actors : All (λ (e : Entry). e.actor ≡ by) entries
  pub past : new.past ≡ entries ++ old.past
  pub job : new.job ≡ old.job
  pub out_of_memory : new.out_of_memory ≡ old.out_of_memory
  pub tells : is_some new.told ≡ is_some old.told
  pub kicks : KeepsKicks by old.kicked new.kicked

-- ---- turns

-- a turn of the builder
abbrev pub IsBuild : BookView → Turn → BookView → Type 0
IsBuild old (turns.Did n) new = (n ≡ 1) × HasGrown old actors.Builder 1 new
IsBuild old (turns.Again why) new = IsWaitBy (builder_due old.job old.past) why × (new ≡ old)
IsBuild old turns.Finished new = (builder_due old.job old.past ≡ Finished) × (new ≡ old)
IsBuild old turns.Stopped new = (is_stopped old ≡ true) × (new ≡ old)
IsBuild old _ new = ⊥

-- the record that the store gave for a processor's started load, under the job's key and the version that the start found
pub record OpensLoad (b : BookView) (cpu : Cpu) (work : UnsealWork) : Type 0 where
  pub key : work.key ≡ b.job.key
  pub frame : ℕ
  pub page : Page
  pub loads : last_of b.past cpu.0 ≡ Loads frame page
  pub version : IsSomeAnd (open_start b.past frame) (λ start. work.version ≡ start.version)
  pub given : IfSome b.told (λ calls. gift b.past calls frame ≡ Some work.rec)

-- a turn of a processor. By entries it starts nothing; or a load has started in it, or was open before
abbrev pub IsRun : BookView → Cpu → Turn → BookView → Type 0
IsRun old cpu (turns.Did n) new =
    RunsMany n new.past × (started new.past (actors.Cpu cpu) ≡ false) × HasGrown old (actors.Cpu cpu) n new
IsRun old cpu (turns.Unseal work) new = OpensLoad new cpu work.value × (HasGrown old (actors.Cpu cpu) 1 new ⊎ (new ≡ old))
IsRun old cpu (turns.Again why) new =
    IsWaitBy (cpu_due old.job old.past cpu.0) why × IsNotLost old.told (cpu_due old.job old.past cpu.0) × (new ≡ old)
IsRun old cpu turns.Finished new = (cpu_due old.job old.past cpu.0 ≡ Finished) × (new ≡ old)
IsRun old cpu turns.Stopped new = (is_stopped old ≡ true) × (new ≡ old)
IsRun old cpu _ new = ⊥

-- the end of a processor's started load
abbrev pub IsLoadEnd : BookView → Cpu → Turn → BookView → Type 0
IsLoadEnd old cpu (turns.Did zero) new = (loaded_by (last_of old.past cpu.0) ≡ None) × (new ≡ old)
IsLoadEnd old cpu (turns.Did (suc n)) new = EndsLoad (suc n) new.past × HasGrown old (actors.Cpu cpu) (suc n) new
IsLoadEnd old cpu turns.Stopped new = (is_stopped old ≡ true) × (new ≡ old)
IsLoadEnd old cpu _ new = ⊥

-- the page that has started to go out: its bytes and its header, under the job's key and the version that its start drew. Where no record
-- was forged, the bytes are those of flat memory
pub record SealsPageOut (b : BookView) (work : SealWork) : Type 0 where
  pub key : work.key ≡ b.job.key
  pub frame : ℕ
  pub start : Start
  pub opened : open_start b.past frame ≡ Some start
  pub version : work.version ≡ start.version
  pub page : Page
  pub held : page_there (content b.past frame) ≡ Some page
  pub header : header_at b.past page ≡ Some work.header
  pub bytes : IfSome b.told (λ calls. UnforgedRun b.job.key b.past calls → work.plain.items ≡ bytes_at b.past page)

-- what is due to the reclaimer, by the slots that the driver keeps as out
abbrev pub reclaim_due : BookView → Due
reclaim_due b = reclaimer_due_by b.job b.past (outs_kept b.job b.past) b.kicked

-- a turn of the reclaimer. By entries it starts nothing; or a write-out has started in it, or was open before
abbrev pub IsReclaim : BookView → Turn → BookView → Type 0
IsReclaim old (turns.Did n) new =
    MakesMany (reclaim_due old) n × KicksBy (reclaim_due old) old.kicked new.kicked × (started new.past actors.Reclaimer ≡ false)
    × HasGrown old actors.Reclaimer n new
IsReclaim old (turns.Seal work) new = SealsPageOut new work.value × (HasGrown old actors.Reclaimer 1 new ⊎ (new ≡ old))
IsReclaim old (turns.Again why) new = IsReclaimerWait old.job old.past (reclaim_due old) why × (new ≡ old)
IsReclaim old turns.Finished new = (reclaim_due old ≡ Finished) × (new ≡ old)
IsReclaim old turns.Stopped new = (is_stopped old ≡ true) × (new ≡ old)
IsReclaim old _ new = ⊥

-- the end of the started write-out
abbrev pub IsOutEnd : BookView → Turn → BookView → Type 0
IsOutEnd old (turns.Did zero) new = (frame_started (last_event old.past actors.Reclaimer) ≡ None) × (new ≡ old)
IsOutEnd old (turns.Did (suc n)) new = (n ≡ 0) × EndsOut new.past × (new.kicked ≡ false) × HasGrown old actors.Reclaimer 1 new
IsOutEnd old turns.Stopped new = (is_stopped old ≡ true) × (new ≡ old)
IsOutEnd old _ new = ⊥

-- ---- whose turns load

-- a turn that starts a load, or goes on with one, is a processor's
abbrev pub MayLoad : Actor → Turn → Type 0
MayLoad (actors.Cpu cpu) turn = Unit {0}
MayLoad who (turns.Unseal work) = ⊥
MayLoad who turn = Unit {0}
