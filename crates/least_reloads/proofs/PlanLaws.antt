-- The plan that was made so far.
use Rattle.std.proofs.Common.{◌≡◌, ℕ, ◌+◌, ◌<◌, ◌≤◌, List, [], ◌∷◌, ◌++◌, length, drop}
use Rattle.std.proofs.Common.{get_or, Some, is_some, cond, arith, refl, sym, subst, append_assoc}
use Rattle.std.proofs.lemmas.List.{drop_more, drop_all, append-nil, length-append}
use Rattle.sgx_types.specs.declared.names.Page.{Page}
use Rattle.least_reloads.specs.Plans.{StepView, PlanView, held_behind, loads_of, IsLawful}
use Rattle.least_reloads.specs.inner.Plans.{IsLeastPlan}
use Rattle.least_reloads.specs.inner.Farthest.{IsBest, Hit, Fill, Swap, IsBestRun, Holds, IsUseAt, Keeps, Chosen}
use Rattle.least_reloads.proofs.FarthestLaws.{holds_next, holds_none, reached, least}
use Rattle.least_reloads.proofs.RunLaws.{loads_of-append}
use Rattle.least_reloads.proofs.KeepLaws.{Changes, keeps_next, keeps_like}
use Rattle.least_reloads.proofs.ChooseLaws.{at}

-- the steps before place i are best, and go on as such where the rest does; the map has the held pages by their next uses
pub record MadeSoFar (frames : ℕ) (accesses : List Page) (entries : List (ℕ × Page)) (steps : List StepView) (loads i : ℕ) : Type 0 where
  pub pages : List Page
  pub holds : Holds frames pages
  pub keeps : Keeps i (drop i accesses) pages (at entries) (length entries)
  pub onward : (rest : List StepView) → IsBestRun frames pages (drop i accesses) rest → IsBestRun frames [] accesses (steps ++ rest)
  pub counted : loads ≡ loads_of steps
  pub few : loads ≤ i

pub made_none : (frames : ℕ) (accesses : List Page) (entries : List (ℕ × Page)) (steps : List StepView) → entries ≡ [] → steps ≡ []
    → MadeSoFar frames accesses entries steps 0 0
made_none frames accesses entries steps none no_steps =
    let Made : List (ℕ × Page) → List StepView → Type 0 = λ es ts. MadeSoFar frames accesses es ts 0 0 in
    let MadeEs : List (ℕ × Page) → Type 0 = λ es. Made es steps in
    let MadeTs : List StepView → Type 0 = Made [] in
    let made : Made [] [] = record {
      pages = [];
      holds = holds_none frames;
      keeps = record {
        holds = λ j p h. cc h;
        used = λ j p h. cc h;
        below = λ j p h. cc h;
        found = λ p h. cc h;
        once = λ j k p h h'. cc h;
        size = refl;
      };
      onward = λ rest run. run;
      counted = refl;
      few = omega arith;
    } in
    subst MadeEs (sym none) (subst MadeTs (sym no_steps) made)

one_load : (frames : ℕ) (held : List Page) (page : Page) (coming : List Page) (step : StepView) → IsBest frames held page coming step
    → length step.load ≤ 1
one_load frames held page coming _ (Hit h) = omega arith
one_load frames held page coming _ (Fill h r) = omega arith
one_load frames held page coming _ (Swap old h f o far) = omega arith

pub made_more : (frames : ℕ) (accesses : List Page) (old now new : List (ℕ × Page)) (steps : List StepView) (loads i u : ℕ) (d : Page)
    (step : StepView)
    → 1 ≤ frames → i < length accesses → (so_far : MadeSoFar frames accesses old steps loads i)
    → ((coming pages : List Page) → Holds frames pages → Keeps i (get_or accesses i d ∷ coming) pages (at old) (length old)
    → Chosen frames i (get_or accesses i d) coming pages step (at now) (length now))
    → IsUseAt i (drop i accesses) u → Changes (at now) u (Some (get_or accesses i d)) (at new)
    → length new ≡ length now + cond (is_some (at now u)) 0 1
    → MadeSoFar frames accesses new (steps ++ step ∷ []) (loads + length step.load) (i + 1)
made_more frames accesses old now new steps loads i u d step some low so_far chooses use_at changes more =
    let page = get_or accesses i d in
    let coming = drop (i + 1) accesses in
    let there : drop i accesses ≡ page ∷ coming = drop_more accesses i d low in
    let Kept : List Page → Type 0 = λ coming. Keeps i coming so_far.pages (at old) (length old) in
    let Uses : List Page → Type 0 = λ coming. IsUseAt i coming u in
    let Runs : List Page → List StepView → Type 0 = IsBestRun frames so_far.pages in
    let chosen = chooses coming so_far.pages so_far.holds (subst Kept there so_far.keeps) in
    let next = holds_next frames page coming so_far.pages step some so_far.holds chosen.best in
    let keeps = keeps_next i page coming chosen.others (at now) (at new) (length now) (length new) u chosen.keeps chosen.absent
    (subst Uses there use_at) changes more in
    record {
      pages = held_behind so_far.pages step;
      holds = next.1;
      keeps = keeps_like (i + 1) coming (chosen.others ++ page ∷ []) (held_behind so_far.pages step) (at new) (length new) keeps chosen.same
          (omega (arith, chosen.size, length-append chosen.others (page ∷ [])));
      onward = λ rest run.
          let on = so_far.onward (step ∷ rest) (rw there (chosen.best, run)) in
          rw (append_assoc steps (step ∷ []) rest) on;
      counted = omega (arith, so_far.counted, loads_of-append steps (step ∷ []));
      few = omega (arith, so_far.few, one_load frames so_far.pages page coming step chosen.best);
    }

-- all accesses are served
pub record MadeAll (frames : ℕ) (accesses : List Page) (plan : PlanView) : Type 0 where
  pub lawful : IsLawful accesses frames plan
  pub fewest : IsLeastPlan accesses frames plan

pub made_all : (frames : ℕ) (accesses : List Page) (entries : List (ℕ × Page)) (plan : PlanView) (i : ℕ) → 1 ≤ frames → length accesses ≤ i
    → MadeSoFar frames accesses entries plan.steps plan.loads i → MadeAll frames accesses plan
made_all frames accesses entries plan i some done so_far =
    let all : IsBestRun frames [] accesses (plan.steps ++ []) = so_far.onward [] (rw (drop_all i accesses done) tt) in
    let run : IsBestRun frames [] accesses plan.steps = rw append-nil at all in
    record { lawful = reached frames some accesses plan run so_far.counted; fewest = least frames some accesses plan run so_far.counted }
