-- Only a refused load is to be told of: where nobody has one, no processor tells why a page does not come back.
use Rattle.std.proofs.Common.{◌≡◌, ℕ, not, Bool, true, false, if◌then◌else◌, List, Option, Some, None, slice_get, refl, sym}
use Rattle.std.proofs.Common.{ap, ◌∙◌}
use Rattle.std.proofs.lemmas.Bool.{false≢true}
use Rattle.sgx_rules.specs.declared.entries.AccessOp.{AccessOp}
use Rattle.sgx_rules.specs.declared.entries.AccessOp.TheVariants as accesses
use Rattle.sgx_rules.specs.declared.entries.Action.{Action}
use Rattle.sgx_rules.specs.declared.entries.Action.TheVariants as actions
use Rattle.sgx_rules.specs.declared.entries.BusWhy.{BusWhy}
use Rattle.sgx_rules.specs.declared.entries.Entry.{Entry}
use Rattle.sgx_types.specs.declared.names.Page.{Page}
use Rattle.sgx_rules.specs.Flat.{at_offset}
use Rattle.sgx_types.specs.Pages.{page_at}
use Rattle.sgx_rules.specs.Frames.{added}
use Rattle.sgx_rules.specs.Processors.{Stay, holds_number, stay, translations}
use Rattle.sgx_rules.specs.Table.{is_lawful_access}
use Rattle.job_grammar.specs.declared.jobs.Op.{Op}
use Rattle.job_grammar.specs.declared.jobs.Op.TheVariants as ops
use Rattle.job_grammar.specs.Jobs.{JobView}
use Rattle.script_rules.specs.declared.steps.BuildStep.{BuildStep}
use Rattle.script_rules.specs.Script.{build_of, built, enter_with, is_turned_away, resume_with, step_due}
use Rattle.driver_rules.specs.declared.waits.Why.{Why}
use Rattle.driver_rules.specs.declared.waits.Why.TheVariants as waits
use Rattle.driver_rules.specs.Dues.{Due, Reports, Stopped, makes_or}
use Rattle.driver_rules.specs.Needs.{Interruption, interruption, needs_after, needs_to_enter, needs_to_resume, next_op}
use Rattle.driver_rules.specs.Needs.{save_to_enter}
use Rattle.driver_rules.specs.Needs.{save_to_resume}
use Rattle.driver_rules.specs.Places.{Absent, Away, Here, Leaving, Loading, Place, frame_here, place}
use Rattle.driver_rules.specs.Stops.{is_spent}
use Rattle.driver_rules.specs.Turns.{Fails, Last, Loads, Other, WasEnded, accesses_by, builder_due, cpu_due, due_after}
use Rattle.driver_rules.specs.Turns.{early_turn, enters}
use Rattle.driver_rules.specs.Turns.{fetches, fills, first_away, inside_turn, is_built, is_kicked, is_last, last_of, op_turn}
use Rattle.driver_rules.specs.Turns.{outside_turn}
use Rattle.driver_rules.specs.Turns.{resumes, save_frame, stay_turn, step_turn, turn_due, with_pages}
use Rattle.due_tables.specs.inner.Ending.{NoneFails}

-- why a page does not come back is due
abbrev is_report : Due → Bool
is_report (Reports page why) = true
is_report _ = false

-- nothing is due, since the run was stopped
abbrev pub is_stop : Due → Bool
is_stop Stopped = true
is_stop _ = false

-- something else is due than either
abbrev is_other : Due → Bool
is_other (Reports page why) = false
is_other Stopped = false
is_other _ = true

abbrev IsOther : Due → Type 0
IsOther d = is_other d ≡ true

no_report : (d : Due) → IsOther d → is_report d ≡ false
no_report (Reports page why) h = sym h
no_report Stopped h = refl
no_report d h = refl

no_stop : (d : Due) → IsOther d → is_stop d ≡ false
no_stop (Reports page why) h = refl
no_stop Stopped h = sym h
no_stop d h = refl

-- .. by either way
either : (b : Bool) (x y : Due) → IsOther x → IsOther y → IsOther (if b then x else y)
either true x y h k = h
either false x y h k = k

-- of a page that is needed
fetch_other : (frames : ℕ) (past : List Entry) (g : Page) (at : Place) → IsOther (fetches frames past g at)
fetch_other frames past g (Away slot) = refl
fetch_other frames past g Absent = refl
fetch_other frames past g (Here f) = refl
fetch_other frames past g (Leaving f) = refl
fetch_other frames past g (Loading f slot) = refl

-- .. among several
with_other : (j : JobView) (past : List Entry) (o : Option Page) (d : Due) → IsOther d → IsOther (with_pages j past o d)
with_other j past None d h = h
with_other j past (Some g) d h = fetch_other j.epc past g (place past g)

-- an instruction, or a wait
makes_other : (why : Why) (o : Option Action) → IsOther (makes_or why o)
makes_other why None = refl
makes_other why (Some action) = refl

-- an entry into an enclave
enters_other : (j : JobView) (past : List Entry) (e t : ℕ) → IsOther (enters j past e t)
enters_other j past e t =
    with_other j past (first_away past (needs_to_enter j past e t)) _ (makes_other (waits.Busy (page_at e t))
    (enter_with e t (frame_here (place past (page_at e t))) (save_frame past (page_at e t) (save_to_enter j past e t))))

-- .. again
resumes_other : (j : JobView) (past : List Entry) (e t : ℕ) (pages : List Page) → IsOther (resumes j past e t pages)
resumes_other j past e t pages =
    with_other j past (first_away past pages) _ (makes_other (waits.Busy (page_at e t))
    (resume_with e t (frame_here (place past (page_at e t))) (save_frame past (page_at e t) (save_to_resume j past e t))))

-- a translation
fills_other : (n : ℕ) (o : Option ℕ) → IsOther (fills n o)
fills_other n None = refl
fills_other n (Some f) = refl

-- an access
access_other : (past : List Entry) (p : ℕ) (o : Option Stay) (op : AccessOp) (off : ℕ) (access : Action)
    → IsOther (accesses_by past p o op off access)
access_other past p None op off access = refl
access_other past p (Some s) op off access =
    either (not (is_lawful_access (added past (at_offset s.seat.enclave off)) op)) _ _ refl
    (either (holds_number (translations past p) _) _ _ refl (fills_other _ (frame_here (place past (at_offset s.seat.enclave off)))))

-- each operation
op_other : (j : JobView) (past : List Entry) (p : ℕ) (op : Op) → IsOther (op_turn j past p op)
op_other j past p (ops.Enter e t) = either (is_turned_away past p e) _ (enters j past e t) refl (enters_other j past e t)
op_other j past p (ops.Resume e t) =
    either (is_turned_away past p e) _ (resumes j past e t (needs_to_resume j past e t)) refl
    (resumes_other j past e t (needs_to_resume j past e t))
op_other j past p ops.Exit = refl
op_other j past p ops.Timer = refl
op_other j past p (ops.Load off) = access_other past p (stay past p) accesses.Load off (actions.Load off)
op_other j past p (ops.Store off v) = access_other past p (stay past p) accesses.Store off (actions.Store off v)
op_other j past p (ops.Xadd off v) = access_other past p (stay past p) accesses.Xadd off (actions.Xadd off v)
op_other j past p (ops.Set v) = refl
op_other j past p (ops.Plus v) = refl
op_other j past p (ops.OutLoad e off) = refl
op_other j past p (ops.OutStore e off v) = refl

-- outside
outside_other : (j : JobView) (past : List Entry) (p : ℕ) (i : Option Interruption) (op : Option Op) → IsOther (outside_turn j past p i op)
outside_other j past p i None = refl
outside_other j past p (Some i) (Some op) = resumes_other j past i.enclave i.tcs (needs_after j past p i)
outside_other j past p None (Some op) = op_other j past p op

-- inside
inside_other : (j : JobView) (past : List Entry) (p : ℕ) (b : Bool) (op : Option Op) → IsOther (inside_turn j past p b op)
inside_other j past p true op = refl
inside_other j past p false None = refl
inside_other j past p false (Some op) = op_other j past p op

-- wherever it is
stay_other : (j : JobView) (past : List Entry) (p : ℕ) (o : Option Stay) → IsOther (stay_turn j past p o)
stay_other j past p None = outside_other j past p (interruption past p) (next_op j past p)
stay_other j past p (Some s) = inside_other j past p (is_kicked past p) (next_op j past p)

-- before the build is done
early_other : (o : Option Stay) (op : Option Op) → IsOther (early_turn o op)
early_other None None = refl
early_other None (Some op) = refl
early_other (Some s) op = refl

-- so by its turn something else is due
turn_other : (j : JobView) (past : List Entry) (p : ℕ) → IsOther (turn_due j past p)
turn_other j past p =
    either (is_built j past) (stay_turn j past p (stay past p)) (early_turn (stay past p) (next_op j past p))
    (stay_other j past p (stay past p)) (early_other (stay past p) (next_op j past p))

-- so no processor has a page to tell of
pub none_reports : (j : JobView) (past : List Entry) (p : ℕ) (page : Page) (why : BusWhy) → NoneFails past
    → cpu_due j past p ≡ Reports page why → ⊥
none_reports j past p page why none due = false≢true (sym (by_spent (is_spent past)) ∙ ap is_report due)
  where
    by_last : (l : Last) (b : Bool) → last_of past p ≡ l → is_report (due_after l b (turn_due j past p)) ≡ false
    by_last (Loads n g) b is = refl
    by_last (Fails g reason) b is = absurd (none p g reason is)
    by_last WasEnded b is = refl
    by_last Other b is = no_report (turn_due j past p) (turn_other j past p)

    by_spent : (b : Bool) → is_report (if b then Stopped else due_after (last_of past p) (is_last past p) (turn_due j past p)) ≡ false
    by_spent true = refl
    by_spent false = by_last (last_of past p) (is_last past p) refl

-- and nothing is due to one for want of an epoch or a version only where the run was stopped
pub cpu_stopped : (j : JobView) (past : List Entry) (p : ℕ) → cpu_due j past p ≡ Stopped → is_spent past ≡ true
cpu_stopped j past p due = by_spent (is_spent past) due
  where
    by_last : (l : Last) (b : Bool) → is_stop (due_after l b (turn_due j past p)) ≡ false
    by_last (Loads n g) b = refl
    by_last (Fails g reason) true = refl
    by_last (Fails g reason) false = refl
    by_last WasEnded b = refl
    by_last Other b = no_stop (turn_due j past p) (turn_other j past p)

    by_spent : (b : Bool) → (if b then Stopped else due_after (last_of past p) (is_last past p) (turn_due j past p)) ≡ Stopped → b ≡ true
    by_spent true h = refl
    by_spent false h = absurd (false≢true (sym (by_last (last_of past p) (is_last past p)) ∙ ap is_stop h))

-- .. nor to the builder
pub builder_stopped : (j : JobView) (past : List Entry) → builder_due j past ≡ Stopped → is_spent past ≡ true
builder_stopped j past due = by_spent (is_spent past) due
  where
    by_step : (o : Option BuildStep) → is_stop (step_turn j past o) ≡ false
    by_step None = refl
    by_step (Some step) = no_stop _ (makes_other waits.NoFrame (step_due j.epc past step))

    by_spent : (b : Bool) → (if b then Stopped else step_turn j past (slice_get (build_of j) (built past))) ≡ Stopped → b ≡ true
    by_spent true h = refl
    by_spent false h = absurd (false≢true (sym (by_step (slice_get (build_of j) (built past))) ∙ ap is_stop h))
