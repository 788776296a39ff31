-- Runs and their loads, one step after another.
use Rattle.std.proofs.Common.{◌≡◌, ℕ, zero, suc, ◌+◌, ◌≤◌, ◌<◌, List, [], ◌∷◌, ◌++◌, length, Bool}
use Rattle.std.proofs.Common.{true, false, not, ◌&&◌, ◌||◌, take, drop, get_or, arith, refl, sym, ap, ◌∙◌}
use Rattle.std.specs.Bool.{MatchBool}
use Rattle.std.specs.List.{IsDistinct}
use Rattle.std.proofs.lemmas.Bool.{false≢true}
use Rattle.std.proofs.lemmas.List.{take_more, drop_more, drop_all}
use Rattle.std.proofs.lemmas.Map.Made.{length-from_same_keys}
use Rattle.sgx_types.specs.declared.names.Page.{Page}
use Rattle.sgx_types.specs.Pages.{same_page}
use Rattle.least_reloads.specs.Plans.{StepView, has, kept, held_behind, loads_of, IsStep, IsRun}
use Rattle.least_reloads.specs.inner.Sets.{AreOf, CanLeave, CanJoin, Leave, Join}
use Rattle.least_reloads.proofs.Pages.{page_laws, none_distinct}
use Rattle.least_reloads.proofs.Held.{has-kept, has-after, distinct-after}

pub loads_of-append : (xs ys : List StepView) → loads_of (xs ++ ys) ≡ loads_of xs + loads_of ys
loads_of-append [] ys = omega arith
loads_of-append (x ∷ xs) ys = omega (arith, loads_of-append xs ys)

pub loads_of-more : (steps : List StepView) (i : ℕ) (d : StepView) → i < length steps
    → loads_of (take (i + 1) steps) ≡ loads_of (take i steps) + length (get_or steps i d).load
loads_of-more steps i d low = omega (arith, ap loads_of (take_more steps i d low), loads_of-append (take i steps) (get_or steps i d ∷ []))

pub loads_of-le : (steps : List StepView) (i : ℕ) → loads_of (take i steps) ≤ loads_of steps
loads_of-le [] zero = omega arith
loads_of-le [] (suc i) = omega arith
loads_of-le (x ∷ steps) zero = omega arith
loads_of-le (x ∷ steps) (suc i) = omega (arith, loads_of-le steps i)

-- what a set has once the pages of a step left it
left_is : (pages old left : List Page) (step : StepView) → AreOf old pages → Leave old step.out left → (p : Page)
    → has left p ≡ has (kept pages step) p
left_is pages old left step of leave p = leave p ∙ ap (λ b. not (has step.out p) && b) (of.same p) ∙ sym (has-kept pages step p)

pub step_leaves : (frames : ℕ) (pages old : List Page) (page : Page) (step : StepView) → AreOf old pages → IsStep frames pages page step
    → CanLeave old step.out
step_leaves frames pages old page step of is_step = record { held = λ p h. of.same p ∙ is_step.out_held p h; once = is_step.out_once }

pub step_joins : (frames : ℕ) (pages old left : List Page) (page : Page) (step : StepView) → AreOf old pages → Leave old step.out left
    → IsStep frames pages page step → CanJoin left step.load
step_joins frames pages old left page step of leave is_step =
    record { absent = λ p h. left_is pages old left step of leave p ∙ is_step.load_absent p h; once = is_step.load_once }

-- the set after the pages of a step left it and joined it
pub record Moved (pages new : List Page) (step : StepView) : Type 0 where
  pub of : AreOf new (held_behind pages step)
  pub size : length new ≡ length (held_behind pages step)

pub moved : (pages old left new : List Page) (step : StepView) → AreOf old pages → Leave old step.out left → CanJoin left step.load
    → Join left step.load new → IsDistinct same_page new → Moved pages new step
moved pages old left new step of leave can join unique =
    let same : (p : Page) → has new p ≡ has (held_behind pages step) p = λ p.
    join p
    ∙ ap (λ b. b || has step.load p) (leave p ∙ ap (λ b. not (has step.out p) && b) (of.same p))
    ∙ sym (has-after pages step p) in
    let distinct = distinct-after pages step of.distinct can.once (λ p h. sym (left_is pages old left step of leave p) ∙ can.absent p h) in
    record {
      of = record { same = same; distinct = distinct };
      size = length-from_same_keys page_laws new (held_behind pages step) unique distinct same;
    }

pub step_served : (frames : ℕ) (pages old left new : List Page) (page : Page) (step : StepView) → AreOf old pages → CanLeave old step.out
    → Leave old step.out left → CanJoin left step.load → Join left step.load new
    → IsDistinct same_page new → length new ≤ frames → (b : Bool) → b ≡ has new page
    → MatchBool b (IsStep frames pages page step × AreOf new (held_behind pages step)) (IsStep frames pages page step → ⊥)
step_served frames pages old left new page step of can_leave leave can_join join unique fits true is =
    let m = moved pages old left new step of leave can_join join unique in (
      record {
        out_held = λ p h. sym (of.same p) ∙ can_leave.held p h;
        out_once = can_leave.once;
        load_absent = λ p h. sym (left_is pages old left step of leave p) ∙ can_join.absent p h;
        load_once = can_join.once;
        fits = omega (arith, m.size, fits);
        accessed_held = sym (is ∙ m.of.same page);
      },
      m.of,
    )
step_served frames pages old left new page step of can_leave leave can_join join unique fits false is = λ is_step.
    let m = moved pages old left new step of leave can_join join unique in
    false≢true (is ∙ m.of.same page ∙ is_step.accessed_held)

pub step_too_large : (frames : ℕ) (pages old left new : List Page) (page : Page) (step : StepView) → AreOf old pages
    → Leave old step.out left → CanJoin left step.load → Join left step.load new
    → IsDistinct same_page new → frames < length new → IsStep frames pages page step → ⊥
step_too_large frames pages old left new page step of leave can_join join unique large is_step =
    let m = moved pages old left new step of leave can_join join unique in
    absurd (omega (arith, m.size, large, is_step.fits))

-- ---- a run, as far as its first i steps went
pub record RunSoFar (frames : ℕ) (accesses : List Page) (steps : List StepView) (set : List Page) (i : ℕ) : Type 0 where
  pub pages : List Page
  pub of : AreOf set pages
  pub onward : IsRun frames pages (drop i accesses) (drop i steps) → IsRun frames [] accesses steps
  pub back : IsRun frames [] accesses steps → IsRun frames pages (drop i accesses) (drop i steps)

pub run_none : (frames : ℕ) (accesses : List Page) (steps : List StepView) (set : List Page) → set ≡ []
    → RunSoFar frames accesses steps set 0
run_none frames accesses steps set none = record {
  pages = [];
  of = record { same = λ p. ap (λ s. has s p) none; distinct = none_distinct };
  onward = λ run. run;
  back = λ run. run;
}

pub run_more : (frames : ℕ) (accesses : List Page) (steps : List StepView) (set new : List Page) (i : ℕ) (p : Page) (t : StepView)
    → i < length accesses → i < length steps
    → (so_far : RunSoFar frames accesses steps set i) → IsStep frames so_far.pages (get_or accesses i p) (get_or steps i t)
    → AreOf new (held_behind so_far.pages (get_or steps i t))
    → RunSoFar frames accesses steps new (i + 1)
run_more frames accesses steps set new i p t low low' so_far is_step of = record {
  pages = held_behind so_far.pages (get_or steps i t);
  of = of;
  onward = λ run. so_far.onward (rw (drop_more accesses i p low, drop_more steps i t low') (is_step, run));
  back = λ run. (rw (drop_more accesses i p low, drop_more steps i t low') at so_far.back run).1;
}

pub run_stuck : (frames : ℕ) (accesses : List Page) (steps : List StepView) (set : List Page) (i : ℕ) (p : Page) (t : StepView)
    → i < length accesses → i < length steps
    → (so_far : RunSoFar frames accesses steps set i) → (IsStep frames so_far.pages (get_or accesses i p) (get_or steps i t) → ⊥)
    → IsRun frames [] accesses steps → ⊥
run_stuck frames accesses steps set i p t low low' so_far stuck run =
    stuck (rw (drop_more accesses i p low, drop_more steps i t low') at so_far.back run).0

pub run_all : (frames : ℕ) (accesses : List Page) (steps : List StepView) (set : List Page) (i : ℕ) → length accesses ≤ i → length steps ≤ i
    → RunSoFar frames accesses steps set i → IsRun frames [] accesses steps
run_all frames accesses steps set i done done' so_far = so_far.onward (rw (drop_all i accesses done, drop_all i steps done') tt)

-- a run has a step for each access
pub run_length : (frames : ℕ) (pages accesses : List Page) (steps : List StepView) → IsRun frames pages accesses steps
    → length steps ≡ length accesses
run_length frames pages [] [] run = refl
run_length frames pages [] (t ∷ steps) run = absurd run
run_length frames pages (p ∷ accesses) [] run = absurd run
run_length frames pages (p ∷ accesses) (t ∷ steps) run = omega (arith, run_length frames (held_behind pages t) accesses steps run.1)
