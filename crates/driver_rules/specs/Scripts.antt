-- The rule Script: who may make which entry next, and when a run is over.
use Rattle.std.specs.Prelude.{ℕ, ◌≡◌, ◌<◌, Bool, true, false, List, None, length}
use Rattle.sgx_rules.specs.declared.entries.Entry.{Entry}
use Rattle.sgx_rules.specs.declared.entries.Event.{Event}
use Rattle.sgx_rules.specs.declared.entries.Event.TheVariants.{Did, Refused, Bus}
use Rattle.sgx_types.specs.declared.names.Actor.{Actor}
use Rattle.sgx_types.specs.declared.names.Actor.TheVariants as actors
use Rattle.sgx_rules.specs.declared.entries.Action.TheVariants as actions
use Rattle.sgx_rules.specs.Processors.{stay}
use Rattle.sgx_rules.specs.Rules.{Along}
use Rattle.job_grammar.specs.Jobs.{JobView}
use Rattle.script_rules.specs.Script.{build_of, built, replied, script_of}
use Rattle.driver_rules.specs.Dues.{IsNext}
use Rattle.driver_rules.specs.Stops.{has_bus, is_spent}
use Rattle.driver_rules.specs.Turns.{builder_due, cpu_due}

-- ---- the next entry

-- loads, their ends, and why a page did not come back: processors' alone
abbrev pub is_load : Event → Bool
is_load (Did (actions.EldStart f page slot) answer) = true
is_load (Refused (actions.EldStart f page slot) refusal) = true
is_load (Did (actions.Eld f) answer) = true
is_load (Refused (actions.Eld f) refusal) = true
is_load (Bus page why) = true
is_load _ = false

-- the builder and each processor of the job make the entry that is due to them. Which entries the reclaimer makes Age and Kick say
abbrev pub IsActors : JobView → List Entry → Actor → Event → Type 0
IsActors j past actors.Builder event = IsNext (builder_due j past) event
IsActors j past (actors.Cpu p) event = (p.0 < length j.scripts) × IsNext (cpu_due j past p.0) event
IsActors j past actors.Reclaimer event = is_load event ≡ false

pub record ScriptRule (j : JobView) (past : List Entry) (e : Entry) : Type 0 where
  -- nothing follows a refusal for want of an epoch or a version
  pub not_spent : is_spent past ≡ false
  pub next : IsActors j past e.actor e.event

-- ---- the end

-- all its operations have their replies, and it is outside
pub record IsDone (j : JobView) (past : List Entry) (p : ℕ) : Type 0 where
  pub replied : replied past p ≡ length (script_of j p)
  pub outside : stay past p ≡ None

pub record IsWhole (j : JobView) (past : List Entry) : Type 0 where
  pub built : built past ≡ length (build_of j)
  -- a processor that was not ended is done
  pub cpus : (p : ℕ) → p < length j.scripts → has_bus past p ≡ false → IsDone j past p

-- the build is whole and each processor is done or was ended, or the run was stopped
abbrev pub IsEnded : JobView → List Entry → Type 0
IsEnded j past = is_spent past ≡ false → IsWhole j past

pub record Script (j : JobView) (past : List Entry) : Type 0 where
  pub entries : Along (ScriptRule j) past
  pub ended : IsEnded j past
