-- A page less in a probed table: the gap that it leaves, and how it is closed.
use Rattle.std.proofs.Common.{◌≡◌, ℕ, ◌+◌, ◌-◌, ◌<◌, ◌≤◌, ◌%◌, ◌≢◌, true, cond, List, Option, Some}
use Rattle.std.proofs.Common.{None, is_some, length, get_or, set, refl, sym, ap, ◌∙◌, ◌⊎◌, inl, inr, suc, zero, arith}
use Rattle.std.specs.Prelude.{IsPermutation, swap}
use Rattle.std.proofs.lemmas.Bool.{cases_lt, cases_eq}
use Rattle.std.proofs.lemmas.List.{length-set, get_or-set_same}
use Rattle.std.proofs.lemmas.List.Sums.{sum_by-set}
use Rattle.std.proofs.lemmas.List.Sorted.{IsPermutation-sym, Contains-permutation, sum_by-IsPermutation}
use Rattle.std.proofs.lemmas.List.Edits.{length-swap, swapped_from_swap}
use Rattle.cached_translations.specs.declared.probe_table.Slot.{Slot}
use Rattle.cached_translations.specs.inner.Probe.{Leads, IsProbed, IsGapped, IsSlotOf, Drops, AreOnce, used, slot_at}
use Rattle.cached_translations.proofs.ProbeLaws.{steps_to, same_steps, ReadAfterSet, written, kept, read_after_set, leads_at}
use Rattle.cached_translations.proofs.ProbeLaws.{leads_from}
use Rattle.cached_translations.proofs.ProbeLaws.{some_free, number_of}

-- a probed table without one of its pages
module _ (slots : List (Option Slot)) (is : IsProbed slots) (at n : ℕ) (page : IsSlotOf slots at n) where
  low : at < length slots
  low = omega (arith, is.whole, page.within)

  -- a place in use was in use
  was : (j : ℕ) (a : Slot) → get_or (set slots at None) j None ≡ Some a → (j ≢ at) × (get_or slots j None ≡ Some a)
  was j a here = by_read (read_after_set slots at j None low)
    where
      by_read : ReadAfterSet slots at j None → (j ≢ at) × (get_or slots j None ≡ Some a)
      by_read (written same r) = absurd cc
      by_read (kept other r) = (other, sym r ∙ here)

  -- .. and each other is still
  still : (j : ℕ) (a : Slot) → j ≢ at → get_or slots j None ≡ Some a → get_or (set slots at None) j None ≡ Some a
  still j a other here = by_read (read_after_set slots at j None low)
    where
      by_read : ReadAfterSet slots at j None → get_or (set slots at None) j None ≡ Some a
      by_read (written same r) = absurd (other same)
      by_read (kept away r) = r ∙ here

  free_or_in_use : (x : ℕ) → is_some (slot_at slots x) ≡ true
      → (is_some (slot_at (set slots at None) x) ≡ true) ⊎ (x % 128 ≡ (at + 0) % 128)
  free_or_in_use x full = by_read (read_after_set slots at (x % 128) None low)
    where
      by_read : ReadAfterSet slots at (x % 128) None → (is_some (slot_at (set slots at None) x) ≡ true) ⊎ (x % 128 ≡ (at + 0) % 128)
      by_read (written same r) = inr (omega (arith, page.within))
      by_read (kept other r) = inl (rw r full)

  pub gapped_without : IsGapped (set slots at None) at 0 1
  gapped_without = record {
    whole = rw length-set is.whole;
    gap =
        let own : (at + 0) % 128 ≡ at = omega (arith, page.within) in
        rw own (get_or-set_same slots at None None low);
    once = λ i j a b li lj hi hj same. is.once i j a b li lj (was i a hi).1 (was j b hj).1 same;
    reached = λ steps a few here k below. free_or_in_use (a.number + k)
        (is.reached steps a few (was ((a.number + steps) % 128) a here).1 k below);
    passed = λ steps a few j after before same here. absurd (omega arith);
  }

  to : (m q : ℕ) → Leads (set slots at None) m q → Leads slots m q × (m ≢ n)
  to m q leads =
      let old = was leads.0 (record { number = m; place = q }) (leads_at (set slots at None) m q leads) in
      let within : leads.0 < length slots = rw length-set at leads.1 in
      (leads_from slots leads.0 (record { number = m; place = q }) within old.1, other old.0 old.1 (omega (arith, within, is.whole)))
    where
      other : leads.0 ≢ at → get_or slots leads.0 None ≡ Some (record { number = m; place = q }) → leads.0 < 128 → m ≢ n
      other away here within same =
          away (is.once leads.0 at (record { number = m; place = q }) page.slot within page.within here page.here (same ∙ sym page.of_page))

  from : (m q : ℕ) → Leads slots m q × (m ≢ n) → Leads (set slots at None) m q
  from m q both = by_place (cases_eq both.0.0 at)
    where
      here : get_or slots both.0.0 None ≡ Some (record { number = m; place = q })
      here = leads_at slots m q both.0

      by_place : (both.0.0 ≡ at) ⊎ (both.0.0 ≡ at → ⊥) → Leads (set slots at None) m q
      by_place (inl same) =
          absurd (both.1 (number_of (record { number = m; place = q }) page.slot (sym here ∙ rw same page.here) ∙ page.of_page))
      by_place (inr away) =
          leads_from (set slots at None) both.0.0 (record { number = m; place = q }) (rw length-set both.0.1)
          (still both.0.0 (record { number = m; place = q }) away here)

  pub drops_without : (new : List (Option Slot)) → IsPermutation (set slots at None) new → Drops slots new n
  drops_without new moved = record {
    leads = λ m q. (
      λ leads. to m q (Contains-permutation new (set slots at None) _ (IsPermutation-sym (set slots at None) new moved) leads),
      λ both. Contains-permutation (set slots at None) new _ moved (from m q both),
    );
    count =
        let sums = rw page.here at (sum_by-set (λ (o : Option Slot). cond (is_some o) 1 0) slots at None None low) in
        omega (arith, sums, sum_by-IsPermutation (λ (o : Option Slot). cond (is_some o) 1 0) (set slots at None) new moved);
  }

-- a table with a gap and another free place: the free place is ahead of the gap
pub free_ahead : (slots : List (Option Slot)) (from : ℕ) → from < 128 → IsGapped slots from 0 1 → used slots + 1 < 128
    → (b : ℕ) × (1 ≤ b) × (b < 128) × (slot_at slots (from + b) ≡ None)
free_ahead slots from low is room =
    let e : Slot = record { number = 0; place = 0 } in
    let within : from < length slots = omega (arith, is.whole) in
    let own : (from + 0) % 128 ≡ from = omega arith in
    let sums = rw (rw own at is.gap) at (sum_by-set (λ (o : Option Slot). cond (is_some o) 1 0) slots from (Some e) None within) in
    let whole : length (set slots from (Some e)) ≡ 128 = rw length-set is.whole in
    let free = some_free (set slots from (Some e)) (omega (arith, sums)) in
    by_read e free.0 (omega (arith, free.1)) free.2 (read_after_set slots from free.0 (Some e) within)
  where
    by_read : (e : Slot) (i : ℕ) → i < 128 → get_or (set slots from (Some e)) i None ≡ None → ReadAfterSet slots from i (Some e)
        → (b : ℕ) × (1 ≤ b) × (b < 128) × (slot_at slots (from + b) ≡ None)
    by_read e i few none (written same r) = absurd cc
    by_read e i few none (kept other r) =
        let to = steps_to from i few in
        (to.steps, at_least to.steps to.there, to.few, rw to.there (sym r ∙ none))
      where
        at_least : (s : ℕ) → (from + s) % 128 ≡ i → 1 ≤ s
        at_least zero there = absurd (other (omega arith))
        at_least (suc s) there = omega arith

-- a table with a gap, where a page stands at the next place
module _ (slots : List (Option Slot)) (from filled step : ℕ) (is : IsGapped slots from filled step) (before : filled < step)
    (few : step < 128)
    (o : Slot) (next : slot_at slots (from + step) ≡ Some o) (steps : ℕ) (near : steps < 128)
    (there : (o.number + steps) % 128 ≡ (from + step) % 128) where
  -- its run does not pass the gap: it stays
  pub stays : steps + filled < step → IsGapped slots from filled (step + 1)
  stays short = record {
    whole = is.whole;
    gap = is.gap;
    once = is.once;
    reached = is.reached;
    passed = λ s a low j after below same here. by_place s a low j after same here (cases_lt j step) below;
  }
    where
      by_place : (s : ℕ) (a : Slot) → s < 128 → (j : ℕ) → filled < j → (a.number + s) % 128 ≡ (from + j) % 128
          → slot_at slots (a.number + s) ≡ Some a
          → (j < step) ⊎ (step ≤ j) → j < step + 1 → s + filled < j
      by_place s a low j after same here (inl less) below = is.passed s a low j after less same here
      by_place s a low j after same here (inr most) below =
          let last : j ≡ step = omega arith in
          let at_next : (a.number + s) % 128 ≡ (from + step) % 128 = rw last at same in
          let page : a.number ≡ o.number = number_of a o (sym here ∙ rw at_next next) in
          let alike : s ≡ steps = same_steps o.number s steps low near (rw page at at_next ∙ sym there) in
          omega arith

  -- a free place that is ahead is past it
  pub beyond : (b : ℕ) → step ≤ b → slot_at slots (from + b) ≡ None → step + 1 ≤ b
  beyond b after free = by_order (cases_eq b step)
    where
      by_order : (b ≡ step) ⊎ (b ≡ step → ⊥) → step + 1 ≤ b
      by_order (inl same) = let none : slot_at slots (from + step) ≡ None = rw same at free in absurd cc
      by_order (inr other) = omega arith

  -- its run passes the gap: it moves there, and leaves a gap
  module _ (long : step ≤ steps + filled) (new : List (Option Slot))
      (swapped : new ≡ swap slots ((from + filled) % 128) ((from + step) % 128)) where
    data ReadAfterMove (j : ℕ) : Type 0 where
      moved : j ≡ (from + filled) % 128 → get_or new j None ≡ Some o → ReadAfterMove j
      left : j ≡ (from + step) % 128 → get_or new j None ≡ None → ReadAfterMove j
      same_as : (j ≡ (from + filled) % 128 → ⊥) → (j ≡ (from + step) % 128 → ⊥) → get_or new j None ≡ get_or slots j None → ReadAfterMove j

    read_after_move : (j : ℕ) → ReadAfterMove j
    read_after_move j = by_place (cases_eq j ((from + filled) % 128)) (cases_eq j ((from + step) % 128))
      where
        exchange : (get_or new ((from + filled) % 128) None ≡ get_or slots ((from + step) % 128) None)
            × (get_or new ((from + step) % 128) None ≡ get_or slots ((from + filled) % 128) None)
            × ((m : ℕ) → (m ≡ (from + filled) % 128 → ⊥) → (m ≡ (from + step) % 128 → ⊥) → get_or new m None ≡ get_or slots m None)
        exchange = swapped_from_swap slots new ((from + filled) % 128) ((from + step) % 128) None (omega (arith, is.whole))
            (omega (arith, is.whole)) swapped

        by_place : (j ≡ (from + filled) % 128) ⊎ (j ≡ (from + filled) % 128 → ⊥) → (j ≡ (from + step) % 128) ⊎ (j ≡ (from + step) % 128 → ⊥)
            → ReadAfterMove j
        by_place (inl gap) at_next = moved gap (rw gap (exchange.0 ∙ next))
        by_place (inr away) (inl at_next) = left at_next (rw at_next (exchange.1 ∙ is.gap))
        by_place (inr away) (inr apart) = same_as away apart (exchange.2 j away apart)

    once_moved : AreOnce new
    once_moved i j a b li lj hi hj same = by_reads (read_after_move i) (read_after_move j)
      where
        not_next : (k : ℕ) (p : Slot) → k < 128 → (k ≡ (from + step) % 128 → ⊥) → get_or slots k None ≡ Some p → p.number ≡ o.number → ⊥
        not_next k p within apart here of_page = apart (is.once k ((from + step) % 128) p o within (omega arith) here next of_page)

        by_reads : ReadAfterMove i → ReadAfterMove j → i ≡ j
        by_reads (left ei ri) other = absurd cc
        by_reads (moved ei ri) (left ej rj) = absurd cc
        by_reads (same_as ai ni ri) (left ej rj) = absurd cc
        by_reads (moved ei ri) (moved ej rj) = ei ∙ sym ej
        by_reads (moved ei ri) (same_as aj nj rj) = absurd (not_next j b lj nj (sym rj ∙ hj) (sym same ∙ number_of a o (sym hi ∙ ri)))
        by_reads (same_as ai ni ri) (moved ej rj) = absurd (not_next i a li ni (sym ri ∙ hi) (same ∙ number_of b o (sym hj ∙ rj)))
        by_reads (same_as ai ni ri) (same_as aj nj rj) = is.once i j a b li lj (sym ri ∙ hi) (sym rj ∙ hj) same

    -- a place that was in use or the gap is in use or the new gap
    in_use_or_left : (x : ℕ) → (is_some (slot_at slots x) ≡ true) ⊎ (x % 128 ≡ (from + filled) % 128)
        → (is_some (slot_at new x) ≡ true) ⊎ (x % 128 ≡ (from + step) % 128)
    in_use_or_left x was = by_read (read_after_move (x % 128)) was
      where
        by_read : ReadAfterMove (x % 128) → (is_some (slot_at slots x) ≡ true) ⊎ (x % 128 ≡ (from + filled) % 128)
            → (is_some (slot_at new x) ≡ true) ⊎ (x % 128 ≡ (from + step) % 128)
        by_read (moved e r) was = inl (rw r refl)
        by_read (left e r) was = inr e
        by_read (same_as away apart r) (inl full) = inl (rw r full)
        by_read (same_as away apart r) (inr gap) = absurd (away gap)

    reached_moved : (s : ℕ) (a : Slot) → s < 128 → slot_at new (a.number + s) ≡ Some a → (k : ℕ) → k < s
        → (is_some (slot_at new (a.number + k)) ≡ true) ⊎ ((a.number + k) % 128 ≡ (from + step) % 128)
    reached_moved s a low here k below = in_use_or_left (a.number + k) (by_read (read_after_move ((a.number + s) % 128)))
      where
        by_read : ReadAfterMove ((a.number + s) % 128)
            → (is_some (slot_at slots (a.number + k)) ≡ true) ⊎ ((a.number + k) % 128 ≡ (from + filled) % 128)
        by_read (moved e r) =
            let page : a.number ≡ o.number = number_of a o (sym here ∙ r) in
            let e' : (o.number + s) % 128 ≡ (from + filled) % 128 = rw page at e in
            let back : s + (step - filled) ≡ steps =
            same_steps o.number (s + (step - filled)) steps (nearer s low e') near (ahead s e' ∙ sym there) in
            rw page (is.reached steps o near (rw there next) k (omega arith))
          where
            ahead : (s : ℕ) → (o.number + s) % 128 ≡ (from + filled) % 128 → (o.number + (s + (step - filled))) % 128 ≡ (from + step) % 128
            ahead s e' = omega arith

            nearer : (s : ℕ) → s < 128 → (o.number + s) % 128 ≡ (from + filled) % 128 → s + (step - filled) < 128
            nearer s low e' = omega arith
        by_read (left e r) = absurd cc
        by_read (same_as away apart r) = is.reached s a low (sym r ∙ here) k below

    pub moves : IsGapped new from step (step + 1)
    moves = record {
      whole = ap length swapped ∙ length-swap slots ((from + filled) % 128) ((from + step) % 128) ∙ is.whole;
      gap = at_left (read_after_move ((from + step) % 128));
      once = once_moved;
      reached = reached_moved;
      passed = λ s a low j after below same here. absurd (omega arith);
    }
      where
        at_left : ReadAfterMove ((from + step) % 128) → get_or new ((from + step) % 128) None ≡ None
        at_left (moved e r) = absurd (omega arith)
        at_left (left e r) = r
        at_left (same_as away apart r) = absurd (apart refl)

    -- what is free further on stays so
    pub free_still : (b : ℕ) → step ≤ b → b < 128 → slot_at slots (from + b) ≡ None → slot_at new (from + b) ≡ None
    free_still b after low free = by_read (read_after_move ((from + b) % 128))
      where
        by_read : ReadAfterMove ((from + b) % 128) → get_or new ((from + b) % 128) None ≡ None
        by_read (moved e r) = absurd (omega arith)
        by_read (left e r) = r
        by_read (same_as away apart r) = r ∙ free

-- a table with a gap, where the next place is free: no run passes the gap
pub closed : (slots : List (Option Slot)) (from filled step : ℕ) → IsGapped slots from filled step → filled < step → step < 128
    → slot_at slots (from + step) ≡ None → IsProbed slots
closed slots from filled step is before few free = record { whole = is.whole; once = is.once; reached = reached }
  where
    no_pass : (s : ℕ) (a : Slot) → s < 128 → slot_at slots (a.number + s) ≡ Some a → (k : ℕ) → k < s
        → (a.number + k) % 128 ≡ (from + filled) % 128 → ⊥
    no_pass s a low here k below gap = by_place (cases_lt (filled + (s - k)) step)
      where
        at_end : (a.number + s) % 128 ≡ (from + (filled + (s - k))) % 128
        at_end = omega arith

        at_next : (a.number + (k + (step - filled))) % 128 ≡ (from + step) % 128
        at_next = omega arith

        none : slot_at slots (a.number + (k + (step - filled))) ≡ None
        none = rw at_next free

        by_reach : (is_some (slot_at slots (a.number + (k + (step - filled)))) ≡ true)
            ⊎ ((a.number + (k + (step - filled))) % 128 ≡ (from + filled) % 128) → ⊥
        by_reach (inl full) = cc none
        by_reach (inr at_gap) = omega (arith, at_next)

        by_end : step ≤ filled + (s - k) → (k + (step - filled) < s) ⊎ (s ≤ k + (step - filled)) → ⊥
        by_end far (inl less) = by_reach (is.reached s a low here (k + (step - filled)) less)
        by_end far (inr most) =
            let same : k + (step - filled) ≡ s = omega arith in
            let free_too : slot_at slots (a.number + s) ≡ None = rw same at none in
            cc

        by_place : (filled + (s - k) < step) ⊎ (step ≤ filled + (s - k)) → ⊥
        by_place (inl less) = omega (arith, is.passed s a low (filled + (s - k)) (omega arith) less at_end here)
        by_place (inr far) = by_end far (cases_lt (k + (step - filled)) s)

    reached : (s : ℕ) (a : Slot) → s < 128 → slot_at slots (a.number + s) ≡ Some a → (k : ℕ) → k < s
        → is_some (slot_at slots (a.number + k)) ≡ true
    reached s a low here k below = by_reach (is.reached s a low here k below)
      where
        by_reach : (is_some (slot_at slots (a.number + k)) ≡ true) ⊎ ((a.number + k) % 128 ≡ (from + filled) % 128)
            → is_some (slot_at slots (a.number + k)) ≡ true
        by_reach (inl full) = full
        by_reach (inr gap) = absurd (no_pass s a low here k below gap)
