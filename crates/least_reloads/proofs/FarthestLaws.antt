-- The plan in which the page with the farthest next use goes, and that no lawful plan loads fewer pages.
use Rattle.std.proofs.Common.{◌≡◌, ℕ, suc, ◌+◌, ◌-◌, ◌≤◌, Bool, true, false, not, List, [], ◌∷◌, length, take}
use Rattle.std.proofs.Common.{arith, refl, sym, ap, ◌∙◌}
use Rattle.std.specs.List.{IsDistinct}
use Rattle.std.proofs.lemmas.Bool.{false≢true, and_right, or_left}
use Rattle.std.proofs.lemmas.List.{length-append, append-nil}
use Rattle.sgx_types.specs.declared.names.Page.{Page}
use Rattle.sgx_types.specs.Pages.{same_page}
use Rattle.sgx_types.proofs.Pages.{same_page-refl}
use Rattle.sgx_types.proofs.CountLaws.{one_if}
use Rattle.least_reloads.specs.Plans.{StepView, PlanView, has, kept, held_behind, IsStep, IsRun, loads_of, IsLawful}
use Rattle.least_reloads.specs.inner.Plans.{IsLeastPlan}
use Rattle.least_reloads.specs.inner.Farthest.{stays, comes, swaps, IsUsedLast, IsBest, Hit, Fill, Swap, IsBestRun, Holds}
use Rattle.least_reloads.proofs.Pages.{none_distinct, one_distinct}
use Rattle.least_reloads.proofs.Held.{has-kept, has_one, loaded, distinct-after}
use Rattle.least_reloads.proofs.Soon.{count, soon, count-append, count-le, count-filter, count-all, none_soon}
use Rattle.least_reloads.proofs.Soon.{count-or_is_held, count-or_is_absent, count-or_is_once, without, count-without}
use Rattle.least_reloads.proofs.Soon.{length-without}

-- no more of their held pages are used soon than of ours, but for d, however soon is meant
abbrev pub Behind : List Page → List Page → List Page → ℕ → Type 0
Behind coming theirs ours d = (t : ℕ) → soon t coming theirs ≤ soon t coming ours + d

pub all_kept : (held load : List Page) → kept held (record { out = []; load = load }) ≡ held
all_kept [] load = refl
all_kept (h ∷ held) load = ap (λ l. h ∷ l) (all_kept held load)

-- a step of any plan makes room for at most what it loads
soon-after : (t : ℕ) (coming held : List Page) (step : StepView)
    → soon t coming (held_behind held step) ≤ soon t coming held + length step.load
soon-after t coming held step =
    omega (
      arith,
      count-append (has (take t coming)) (kept held step) step.load,
      count-filter (has (take t coming))
          (λ p. not (has step.out p)) held,
      count-le (has (take t coming)) step.load,
    )

-- the next held pages, with a page that is used now among them
soon-used : (t : ℕ) (page : Page) (coming held : List Page) → has held page ≡ true
    → soon t coming held + 1 ≤ soon (suc t) (page ∷ coming) held + one_if (has (take t coming) page)
soon-used t page coming held is = count-or_is_held (has (take t coming)) page held is

-- what a step of ours and one of theirs leave of the difference: as much as ours loads more
pub record Next (page : Page) (coming theirs ours : List Page) (d : ℕ) (their_step our_step : StepView) : Type 0 where
  pub left : ℕ
  pub behind : Behind coming (held_behind theirs their_step) (held_behind ours our_step) left
  pub paid : length our_step.load + left ≤ length their_step.load + d

next_hit : (frames : ℕ) (page : Page) (coming theirs ours : List Page) (d : ℕ) (step : StepView)
    → IsDistinct same_page ours → IsStep frames theirs page step → Behind (page ∷ coming) theirs ours d → has ours page ≡ true
    → Next page coming theirs ours d step stays
next_hit frames page coming theirs ours d step distinct is_step behind held = record {
  left = length step.load + d;
  behind = λ t.
      let same : held_behind ours stays ≡ ours = append-nil (kept ours stays) ∙ all_kept ours [] in
      omega (
        arith,
        ap (soon t coming) same,
        soon-used t page coming (held_behind theirs step) is_step.accessed_held,
        soon-after (suc t) (page ∷ coming) theirs step,
        behind (suc t),
        count-or_is_once (has (take t coming)) page ours distinct held,
      );
  paid = omega arith;
}

-- where ours misses, theirs is at least one ahead
ahead : (frames : ℕ) (page : Page) (coming theirs ours : List Page) (d : ℕ) (step : StepView)
    → IsStep frames theirs page step → Behind (page ∷ coming) theirs ours d → has ours page ≡ false → 1 ≤ length step.load + d
ahead frames page coming theirs ours d step is_step behind absent =
    omega (
      arith,
      soon-used 0 page coming (held_behind theirs step) is_step.accessed_held,
      none_soon coming (held_behind theirs step),
      soon-after 1 (page ∷ coming) theirs step,
      behind 1,
      count-or_is_absent (has (take 0 coming)) page ours absent,
      none_soon coming ours,
    )

next_fill : (frames : ℕ) (page : Page) (coming theirs ours : List Page) (d : ℕ) (step : StepView)
    → IsStep frames theirs page step → Behind (page ∷ coming) theirs ours d → has ours page ≡ false
    → Next page coming theirs ours d step (comes page)
next_fill frames page coming theirs ours d step is_step behind absent =
    let one_ahead = ahead frames page coming theirs ours d step is_step behind absent in
    record {
      left = length step.load + d - 1;
      behind = λ t.
          omega (
            arith,
            one_ahead,
            ap (count (has (take t coming))) (all_kept ours (page ∷ [])),
            count-append (has (take t coming)) (kept ours (comes page)) (page ∷ []),
            soon-used t page coming (held_behind theirs step) is_step.accessed_held,
            soon-after (suc t) (page ∷ coming) theirs step,
            behind (suc t),
            count-or_is_absent (has (take t coming)) page ours absent,
          );
      paid = omega (arith, one_ahead);
    }

next_swap : (frames : ℕ) (page : Page) (coming theirs ours : List Page) (d : ℕ) (step : StepView) (old : Page)
    → IsDistinct same_page ours → IsStep frames theirs page step → Behind (page ∷ coming) theirs ours d → has ours page ≡ false
    → frames ≤ length ours → has ours old ≡ true → IsUsedLast ours coming old
    → Next page coming theirs ours d step (swaps old page)
next_swap frames page coming theirs ours d step old distinct is_step behind absent full held farthest =
    let one_ahead = ahead frames page coming theirs ours d step is_step behind absent in
    record {
      left = length step.load + d - 1;
      behind = λ t. by_use t (has (take t coming) old) refl;
      paid = omega (arith, one_ahead);
    }
  where
    by_use : (t : ℕ) (b : Bool) → has (take t coming) old ≡ b
        → soon t coming (held_behind theirs step) ≤ soon t coming (held_behind ours (swaps old page)) + (length step.load + d - 1)
    by_use t true used =
        omega (
          arith,
          ap one_if used,
          count-all (has (take t coming)) ours (farthest t used),
          count-without (has (take t coming)) old ours distinct held,
          count-append (has (take t coming)) (kept ours (swaps old page)) (page ∷ []),
          soon-used t page coming (held_behind theirs step) is_step.accessed_held,
          count-le (has (take (suc t) (page ∷ coming))) (held_behind theirs step),
          is_step.fits,
        )
    by_use t false unused =
        omega (
          arith,
          ap one_if unused,
          ahead frames page coming theirs ours d step is_step behind absent,
          count-without (has (take t coming)) old ours distinct held,
          count-append (has (take t coming)) (kept ours (swaps old page)) (page ∷ []),
          soon-used t page coming (held_behind theirs step) is_step.accessed_held,
          soon-after (suc t) (page ∷ coming) theirs step,
          behind (suc t),
          count-or_is_absent (has (take t coming)) page ours absent,
        )

next : (frames : ℕ) (page : Page) (coming theirs ours : List Page) (d : ℕ) (their_step our_step : StepView)
    → IsDistinct same_page ours → IsStep frames theirs page their_step → Behind (page ∷ coming) theirs ours d
    → IsBest frames ours page coming our_step
    → Next page coming theirs ours d their_step our_step
next frames page coming theirs ours d their_step _ distinct is_step behind (Hit held) =
    next_hit frames page coming theirs ours d their_step distinct is_step behind held
next frames page coming theirs ours d their_step _ distinct is_step behind (Fill absent room) =
    next_fill frames page coming theirs ours d their_step is_step behind absent
next frames page coming theirs ours d their_step _ distinct is_step behind (Swap old absent full held farthest) =
    next_swap frames page coming theirs ours d their_step old distinct is_step behind absent full held farthest

-- the best steps are lawful
best_step : (frames : ℕ) (page : Page) (coming ours : List Page) (step : StepView) → 1 ≤ frames → Holds frames ours
    → IsBest frames ours page coming step → IsStep frames ours page step
best_step frames page coming ours _ some holds (Hit held) =
    let same : held_behind ours stays ≡ ours = append-nil (kept ours stays) ∙ all_kept ours [] in
    record {
      out_held = λ p h. absurd (false≢true h);
      out_once = none_distinct;
      load_absent = λ p h. absurd (false≢true h);
      load_once = none_distinct;
      fits = omega (arith, ap length same, holds.fits);
      accessed_held = ap (λ pages. has pages page) same ∙ held;
    }
best_step frames page coming ours _ some holds (Fill absent room) = record {
  out_held = λ p h. absurd (false≢true h);
  out_once = none_distinct;
  load_absent = λ p h. ap (λ pages. has pages p) (all_kept ours (page ∷ [])) ∙ ap (has ours) (sym (has_one page p h)) ∙ absent;
  load_once = one_distinct page;
  fits = omega (arith, length-append (kept ours (comes page)) (page ∷ []), ap length (all_kept ours (page ∷ [])), room);
  accessed_held = loaded ours (comes page) page (or_left (same_page page page) false (same_page-refl page));
}
best_step frames page coming ours _ some holds (Swap old absent full held farthest) = record {
  out_held = λ p h. ap (has ours) (sym (has_one old p h)) ∙ held;
  out_once = one_distinct old;
  load_absent = λ p h. has-kept ours (swaps old page) p
      ∙ and_right (not (has (old ∷ []) p)) (has ours p) (ap (has ours) (sym (has_one page p h)) ∙ absent);
  load_once = one_distinct page;
  fits = omega (arith, length-append (without old ours) (page ∷ []), length-without old ours holds.distinct held, holds.fits);
  accessed_held = loaded ours (swaps old page) page (or_left (same_page page page) false (same_page-refl page));
}

pub holds_next : (frames : ℕ) (page : Page) (coming ours : List Page) (step : StepView) → 1 ≤ frames → Holds frames ours
    → IsBest frames ours page coming step
    → IsStep frames ours page step × Holds frames (held_behind ours step)
holds_next frames page coming ours step some holds best =
    let is_step = best_step frames page coming ours step some holds best in
    (is_step, record { distinct = distinct-after ours step holds.distinct is_step.load_once is_step.load_absent; fits = is_step.fits })

fewest_from : (frames : ℕ) → 1 ≤ frames → (accesses theirs ours : List Page) (d : ℕ) (their_steps our_steps : List StepView)
    → Holds frames ours → Behind accesses theirs ours d → IsRun frames theirs accesses their_steps
    → IsBestRun frames ours accesses our_steps
    → loads_of our_steps ≤ loads_of their_steps + d
fewest_from frames some [] theirs ours d _ [] holds behind run best = omega arith
fewest_from frames some [] theirs ours d _ (t ∷ ts) holds behind run best = absurd best
fewest_from frames some (page ∷ coming) theirs ours d _ [] holds behind run best = absurd best
fewest_from frames some (page ∷ coming) theirs ours d [] (our ∷ our_steps) holds behind run best = absurd run
fewest_from frames some (page ∷ coming) theirs ours d (their ∷ their_steps) (our ∷ our_steps) holds behind run best =
    let n = next frames page coming theirs ours d their our holds.distinct run.0 behind best.0 in
    omega (
      arith,
      n.paid,
      fewest_from frames some coming (held_behind theirs their) (held_behind ours our) n.left their_steps our_steps
          (holds_next frames page coming ours our some holds best.0).1 n.behind run.1 best.1,
    )

lawful_from : (frames : ℕ) → 1 ≤ frames → (accesses ours : List Page) (steps : List StepView) → Holds frames ours
    → IsBestRun frames ours accesses steps → IsRun frames ours accesses steps
lawful_from frames some [] ours [] holds best = tt
lawful_from frames some [] ours (t ∷ ts) holds best = absurd best
lawful_from frames some (page ∷ coming) ours [] holds best = absurd best
lawful_from frames some (page ∷ coming) ours (step ∷ steps) holds best =
    let n = holds_next frames page coming ours step some holds best.0 in
    (n.0, lawful_from frames some coming (held_behind ours step) steps n.1 best.1)

pub holds_none : (frames : ℕ) → Holds frames []
holds_none frames = record { distinct = none_distinct; fits = omega arith }

-- the plan of best steps is lawful
pub reached : (frames : ℕ) → 1 ≤ frames → (accesses : List Page) (plan : PlanView) → IsBestRun frames [] accesses plan.steps
    → plan.loads ≡ loads_of plan.steps → IsLawful accesses frames plan
reached frames some accesses plan best counted = record {
  run = lawful_from frames some accesses [] plan.steps (holds_none frames) best;
  counted = counted;
}

-- and every lawful plan makes at least as many loads
pub least : (frames : ℕ) → 1 ≤ frames → (accesses : List Page) (plan : PlanView) → IsBestRun frames [] accesses plan.steps
    → plan.loads ≡ loads_of plan.steps → IsLeastPlan accesses frames plan
least frames some accesses plan best counted = λ other lawful.
    omega (
      arith,
      counted,
      lawful.counted,
      fewest_from frames some accesses [] [] 0 other.steps plan.steps (holds_none frames) (λ t. omega arith) lawful.run best,
    )
