-- An instruction that is due can be made: of the builder one that builds, of a processor one of its script.
use Rattle.std.proofs.Common.{◌≡◌, ℕ, ◌<◌, Bool, true, false, if◌then◌else◌, refl, subst, List, Option, Some, None}
use Rattle.std.proofs.Common.{slice_get, arith}
use Rattle.std.proofs.lemmas.Bool.{false≢true}
use Rattle.sgx_rules.specs.declared.entries.Action.{Action}
use Rattle.sgx_rules.specs.declared.entries.Action.TheVariants as actions
use Rattle.sgx_types.specs.declared.names.Actor.TheVariants as actors
use Rattle.sgx_rules.specs.declared.entries.Entry.{Entry}
use Rattle.sgx_types.specs.declared.names.Cpu.{Cpu}
use Rattle.sgx_types.specs.Pages.{page_at}
use Rattle.sgx_rules.specs.Frames.{content, frame_of, least_free}
use Rattle.job_grammar.specs.Jobs.{JobView}
use Rattle.script_rules.specs.declared.steps.BuildStep.{BuildStep}
use Rattle.script_rules.specs.declared.steps.BuildStep.TheVariants as builds
use Rattle.script_rules.specs.Script.{build_of, built, with_frame}
use Rattle.machine_laws.specs.inner.Steps.{CanApply, MayNeedMemory}
use Rattle.driver_rules.specs.declared.waits.Why.TheVariants as waits
use Rattle.driver_rules.specs.Dues.{Due, Makes, Stopped, makes_or}
use Rattle.driver_rules.specs.Stops.{is_spent}
use Rattle.driver_rules.specs.Turns.{Fails, Last, Loads, Other, WasEnded, builder_due, cpu_due, due_after, is_last, last_of}
use Rattle.driver_rules.specs.Turns.{step_turn}
use Rattle.driver_rules.specs.Turns.{turn_due}
use Rattle.driver_laws.proofs.OwnLaws.{OfTurn, is_script, turn_script}
use Rattle.due_notes.specs.inner.Plain.{is_plain}

-- ---- the builder

-- what is due, if it is an instruction, is one that the builder can make
abbrev ByBuilder : ℕ → Due → Type 0
ByBuilder cpus (Makes action) = CanApply cpus actors.Builder action × (is_plain action ≡ true)
ByBuilder cpus due = Unit {0}

step_by_builder : (cpus : ℕ) (step : BuildStep) (o : Option ℕ) → ByBuilder cpus (makes_or waits.NoFrame (with_frame step o))
step_by_builder cpus builds.Va (Some f) = (tt, refl)
step_by_builder cpus (builds.Create e b s) (Some f) = (tt, refl)
step_by_builder cpus (builds.Add e n k p i) (Some f) = (tt, refl)
step_by_builder cpus (builds.Extend e n c) (Some f) = (tt, refl)
step_by_builder cpus (builds.Init e x) (Some f) = (tt, refl)
step_by_builder cpus step None = tt

turn_by_builder : (cpus : ℕ) (j : JobView) (past : List Entry) (step : Option BuildStep) → ByBuilder cpus (step_turn j past step)
turn_by_builder cpus j past None = tt
turn_by_builder cpus j past (Some builds.Va) = step_by_builder cpus builds.Va (least_free j.epc (content past))
turn_by_builder cpus j past (Some (builds.Create e b s)) = step_by_builder cpus (builds.Create e b s) (least_free j.epc (content past))
turn_by_builder cpus j past (Some (builds.Add e n k p i)) = step_by_builder cpus (builds.Add e n k p i) (least_free j.epc (content past))
turn_by_builder cpus j past (Some (builds.Extend e n c)) = step_by_builder cpus (builds.Extend e n c) (frame_of past (page_at e n))
turn_by_builder cpus j past (Some (builds.Init e x)) = (tt, refl)

pub builder_makes : (cpus : ℕ) (j : JobView) (past : List Entry) (action : Action) → builder_due j past ≡ Makes action
    → CanApply cpus actors.Builder action × (is_plain action ≡ true)
builder_makes cpus j past action is =
    subst (ByBuilder cpus) is (by_spent (is_spent past) (turn_by_builder cpus j past (slice_get (build_of j) (built past))))
  where
    by_spent : (b : Bool) → ByBuilder cpus (step_turn j past (slice_get (build_of j) (built past)))
        → ByBuilder cpus (if b then Stopped else step_turn j past (slice_get (build_of j) (built past)))
    by_spent true h = tt
    by_spent false h = h

-- ---- a processor

-- what is due, if it is an instruction, is one that a script asks for, or what follows from it
abbrev ByScript : Due → Type 0
ByScript (Makes action) = is_script action ≡ true
ByScript due = Unit {0}

of_turn : (j : JobView) (past : List Entry) (d : Due) → OfTurn j past d → ByScript d
of_turn j past (Makes action) h = h
of_turn j past _ h = tt

after_by_script : (l : Last) (b : Bool) (d : Due) → ByScript d → ByScript (due_after l b d)
after_by_script (Loads f page) b d h = tt
after_by_script (Fails page why) true d h = tt
after_by_script (Fails page why) false d h = tt
after_by_script WasEnded b d h = tt
after_by_script Other b d h = h

due_by_script : (j : JobView) (past : List Entry) (p : ℕ) → ByScript (cpu_due j past p)
due_by_script j past p =
    by_spent (is_spent past) (after_by_script (last_of past p) (is_last past p) (turn_due j past p)
    (of_turn j past (turn_due j past p) (turn_script j past p)))
  where
    by_spent : (b : Bool) → ByScript (due_after (last_of past p) (is_last past p) (turn_due j past p))
        → ByScript (if b then Stopped else due_after (last_of past p) (is_last past p) (turn_due j past p))
    by_spent true h = tt
    by_spent false h = h

-- a processor can make it, and it needs no memory
abbrev pub CanMake : ℕ → Cpu → Action → Type 0
CanMake cpus cpu action = CanApply cpus (actors.Cpu cpu) action × ((is_plain action ≡ true) × (MayNeedMemory action → ⊥))

script_can : (cpus : ℕ) (cpu : Cpu) (action : Action) → cpu.0 < cpus → is_script action ≡ true → CanMake cpus cpu action
script_can cpus cpu (actions.Epa f) low h = absurd (false≢true h)
script_can cpus cpu (actions.Create enclave f base size) low h = absurd (false≢true h)
script_can cpus cpu (actions.Add enclave number f kind perm init) low h = absurd (false≢true h)
script_can cpus cpu (actions.Extend f chunk) low h = absurd (false≢true h)
script_can cpus cpu (actions.Init enclave expect) low h = absurd (false≢true h)
script_can cpus cpu (actions.Block f) low h = absurd (false≢true h)
script_can cpus cpu (actions.Track enclave) low h = absurd (false≢true h)
script_can cpus cpu (actions.EwbStart f slot) low h = absurd (false≢true h)
script_can cpus cpu (actions.Ewb f) low h = absurd (false≢true h)
script_can cpus cpu (actions.EldStart f page slot) low h = absurd (false≢true h)
script_can cpus cpu (actions.Eld f) low h = absurd (false≢true h)
script_can cpus cpu _ low h = (low, (refl, λ needs. needs))

pub cpu_makes : (cpus : ℕ) (j : JobView) (past : List Entry) (p : ℕ) (cpu : Cpu) (action : Action) → cpu_due j past p ≡ Makes action
    → p < cpus → cpu.0 ≡ p → CanMake cpus cpu action
cpu_makes cpus j past p cpu action is low same =
    script_can cpus cpu action (omega (arith, low, same)) (subst ByScript is (due_by_script j past p))
