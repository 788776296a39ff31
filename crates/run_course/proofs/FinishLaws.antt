-- Whether nothing is left to any actor.
use Rattle.std.proofs.Common.{◌≡◌, ℕ, zero, suc, ◌+◌, ◌<◌, ◌&&◌, ◌==◌, not, Bool, true, false, if◌then◌else◌}
use Rattle.std.proofs.Common.{List, Option, Some, None, length, nat_le, slice_get, refl, sym, ap, subst, ◌∙◌, arith, le-leb}
use Rattle.std.proofs.lemmas.Option.{slice_get_within}
use Rattle.std.proofs.Math.Bool.{and-false}
use Rattle.sgx_rules.specs.declared.entries.Action.{Action}
use Rattle.sgx_rules.specs.declared.entries.Entry.{Entry}
use Rattle.sgx_types.specs.declared.names.Page.{Page}
use Rattle.job_grammar.specs.Jobs.{JobView}
use Rattle.script_rules.specs.declared.steps.BuildStep.{BuildStep}
use Rattle.script_rules.specs.Script.{build_of, built, step_due}
use Rattle.driver_rules.specs.declared.waits.Why.{Why}
use Rattle.driver_rules.specs.declared.waits.Why.TheVariants as waits
use Rattle.driver_rules.specs.Dues.{Stopped, makes_or}
use Rattle.driver_rules.specs.Places.{Absent, Away, Here, Leaving, Loading, Place, place}
use Rattle.driver_rules.specs.inner.Reclaims.{all_finished, are_finished, is_finished}
use Rattle.driver_rules.specs.Stops.{is_spent}
use Rattle.driver_rules.specs.Turns.{builder_due, cpu_due, fetches, is_built, step_turn}
use Rattle.due_tables.proofs.EndLaws.{past_all}
use Rattle.due_tables.specs.inner.Due.{building_in, due_in}
use Rattle.due_tables.specs.declared.dues.BuilderDue.{BuilderDue}
use Rattle.due_tables.specs.declared.dues.BuilderDue.TheVariants as builders
use Rattle.due_tables.specs.declared.dues.CpuDue.{CpuDue}
use Rattle.due_tables.specs.declared.dues.CpuDue.TheVariants as dues
use Rattle.run_course.specs.inner.Passing.{is_building, is_left}

-- ---- the builder

not_made : (reason : Why) (o : Option Action) → is_finished (makes_or reason o) ≡ false
not_made reason None = refl
not_made reason (Some action) = refl

-- nothing is left to it exactly where the build is done
pub builder_is : (j : JobView) (past : List Entry) → is_spent past ≡ false → is_finished (builder_due j past) ≡ is_built j past
builder_is j past going =
    ap (λ b. is_finished (if b then Stopped else step_turn j past (slice_get (build_of j) (built past)))) going
    ∙ by_step (slice_get (build_of j) (built past)) refl
  where
    by_step : (o : Option BuildStep) → slice_get (build_of j) (built past) ≡ o → is_finished (step_turn j past o) ≡ is_built j past
    by_step None is = let high = past_all (build_of j) (built past) is in sym (le-leb (length (build_of j)) (built past) high)
    by_step (Some step) is =
        let low = slice_get_within (build_of j) (built past) step is in
        let over : nat_le (length (build_of j)) (built past) ≡ false = grind (arith, low) in
        not_made waits.NoFrame (step_due j.epc past step) ∙ sym over

-- ---- what the tables tell

not_fetched : (frames : ℕ) (past : List Entry) (g : Page) (at : Place) → is_finished (fetches frames past g at) ≡ false
not_fetched frames past g Absent = refl
not_fetched frames past g (Here f) = refl
not_fetched frames past g (Leaving f) = refl
not_fetched frames past g (Loading f slot) = refl
not_fetched frames past g (Away slot) = refl

-- an answer of the tables is that nothing is left where the rules say so
pub end_is : (j : JobView) (past : List Entry) (due : CpuDue) → is_finished (due_in j past due) ≡ not (is_left due)
end_is j past dues.Stopped = refl
end_is j past dues.Finished = refl
end_is j past (dues.Waits reason) = refl
end_is j past (dues.Ends f) = refl
end_is j past (dues.Makes step) = refl
end_is j past (dues.Reports reason page) = refl
end_is j past (dues.Needs page) = not_fetched j.epc past page (place past page)

build_end_is : (due : BuilderDue) → is_finished (building_in due) ≡ not (is_building due)
build_end_is builders.Stopped = refl
build_end_is builders.Finished = refl
build_end_is (builders.Waits reason) = refl
build_end_is (builders.Makes action) = refl

-- so it is for the builder
pub built_is : (j : JobView) (past : List Entry) (due : BuilderDue) (b : Bool) → is_spent past ≡ false
    → building_in due ≡ builder_due j past
    → is_building due ≡ b → is_built j past ≡ not b
built_is j past due b going told left = sym (builder_is j past going) ∙ ap is_finished (sym told) ∙ build_end_is due ∙ ap not left

-- .. and for a processor
pub cpu_is : (j : JobView) (past : List Entry) (p : ℕ) (due : CpuDue) (b : Bool) → due_in j past due ≡ cpu_due j past p → is_left due ≡ b
    → is_finished (cpu_due j past p) ≡ not b
cpu_is j past p due b told left = ap is_finished (sym told) ∙ end_is j past due ∙ ap not left

-- ---- the processors

-- one with something to do is one of all
pub one_unfinished : (j : JobView) (past : List Entry) (p count : ℕ) → p < count → is_finished (cpu_due j past p) ≡ false
    → are_finished j past count ≡ false
one_unfinished j past p zero low h = absurd (omega (arith, low))
one_unfinished j past p (suc count) low h = by_place (p == count) refl (λ less. one_unfinished j past p count less h)
  where
    by_place : (b : Bool) → (p == count) ≡ b → (p < count → are_finished j past count ≡ false)
        → (is_finished (cpu_due j past count) && are_finished j past count) ≡ false
    by_place true is rest =
        let same : p ≡ count = grind (arith, is) in
        ap (λ b. b && are_finished j past count) (subst (λ n. is_finished (cpu_due j past n) ≡ false) same h)
    by_place false is rest =
        let less : p < count = grind (arith, is, low) in
        ap (λ b. is_finished (cpu_due j past count) && b) (rest less)
        ∙ and-false (is_finished (cpu_due j past count))

-- one more that is finished
pub more_finished : (j : JobView) (past : List Entry) (p : ℕ) → is_finished (cpu_due j past p) ≡ true → are_finished j past p ≡ true
    → are_finished j past (p + 1) ≡ true
more_finished j past p one rest =
    let next : p + 1 ≡ suc p = omega arith in
    ap (are_finished j past) next ∙ ap (λ b. b && are_finished j past p) one ∙ rest

-- ---- all

pub not_built : (j : JobView) (past : List Entry) → is_built j past ≡ false → all_finished j past ≡ false
not_built j past h = ap (λ b. b && are_finished j past (length j.scripts)) h

pub not_done : (j : JobView) (past : List Entry) → are_finished j past (length j.scripts) ≡ false → all_finished j past ≡ false
not_done j past h = ap (λ b. is_built j past && b) h ∙ and-false (is_built j past)

pub all_done : (j : JobView) (past : List Entry) → is_built j past ≡ true → are_finished j past (length j.scripts) ≡ true
    → all_finished j past ≡ true
all_done j past built h = ap (λ b. b && are_finished j past (length j.scripts)) built ∙ h
