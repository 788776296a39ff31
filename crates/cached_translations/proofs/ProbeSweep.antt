-- A probed table in which a run is swept, place by place.
use Rattle.std.proofs.Common.{◌≡◌, ℕ, ◌+◌, ◌-◌, ◌<◌, ◌≤◌, ◌%◌, true, List, Option, Some, None, is_some}
use Rattle.std.proofs.Common.{length, get_or, set, sym, ap, ◌∙◌, ◌⊎◌, inl, inr, arith}
use Rattle.std.proofs.lemmas.Bool.{cases_lt}
use Rattle.std.proofs.lemmas.List.{length-set}
use Rattle.cached_translations.specs.declared.probe_table.Slot.{Slot}
use Rattle.cached_translations.specs.inner.Probe.{Leads, IsProbed, IsSwept, slot_at}
use Rattle.cached_translations.proofs.ProbeLaws.{same_steps, ReadAfterSet, written, kept, read_after_set, leads_at, leads_from}
use Rattle.cached_translations.proofs.ProbeLaws.{absent}

pub sweep_none : (slots : List (Option Slot)) (n : ℕ) → IsProbed slots → IsSwept slots n 0
sweep_none slots n is = record {
  whole = is.whole;
  once = is.once;
  swept = λ k below. absurd (omega arith);
  reached = λ s a low here k below. inl (is.reached s a low here k below);
}

-- one place more
module _ (slots : List (Option Slot)) (n step : ℕ) (is : IsSwept slots n step) (few : step < 128) where
  abbrev at : ℕ
  at = (n + step) % 128

  low : at < length slots
  low = omega (arith, is.whole)

  -- a place in use was in use
  was : (j : ℕ) (a : Slot) → get_or (set slots at None) j None ≡ Some a → get_or slots j None ≡ Some a
  was j a here = by_read (read_after_set slots at j None low)
    where
      by_read : ReadAfterSet slots at j None → get_or slots j None ≡ Some a
      by_read (written same r) = absurd cc
      by_read (kept other r) = sym r ∙ here

  pub sweep_more : IsSwept (set slots at None) n (step + 1)
  sweep_more = record {
    whole = rw length-set is.whole;
    once = λ i j a b li lj hi hj same. is.once i j a b li lj (was i a hi) (was j b hj) same;
    swept = λ k below. swept k below (read_after_set slots at ((n + k) % 128) None low);
    reached = λ s a near here k below. in_use_or_swept (a.number + k) (read_after_set slots at ((a.number + k) % 128) None low)
        (is.reached s a near (was ((a.number + s) % 128) a here) k below);
  }
    where
      swept : (k : ℕ) → k < step + 1 → ReadAfterSet slots at ((n + k) % 128) None → slot_at (set slots at None) (n + k) ≡ None
      swept k below (written same r) = r
      swept k below (kept other r) = r ∙ is.swept k (by_order (cases_lt k step))
        where
          by_order : (k < step) ⊎ (step ≤ k) → k < step
          by_order (inl less) = less
          by_order (inr most) = let same : k ≡ step = omega arith in absurd (other (ap (λ i. (n + i) % 128) same))

      in_use_or_swept : (x : ℕ) → ReadAfterSet slots at (x % 128) None
          → (is_some (slot_at slots x) ≡ true) ⊎ ((i : ℕ) × (i < step) × (x % 128 ≡ (n + i) % 128))
          → (is_some (slot_at (set slots at None) x) ≡ true) ⊎ ((i : ℕ) × (i < step + 1) × (x % 128 ≡ (n + i) % 128))
      in_use_or_swept x (written same r) was = inr (step, omega arith, same)
      in_use_or_swept x (kept other r) (inl full) = inl (rw r full)
      in_use_or_swept x (kept other r) (inr free) = inr (free.0, omega (arith, free.1), free.2)

  pub fewer_more : (m q : ℕ) → Leads (set slots at None) m q → Leads slots m q
  fewer_more m q leads =
      leads_from slots leads.0 (record { number = m; place = q }) (rw length-set at leads.1)
      (was leads.0 (record { number = m; place = q }) (leads_at (set slots at None) m q leads))

-- swept up to a free place, or all around
module _ (slots : List (Option Slot)) (n step : ℕ) (is : IsSwept slots n step) (most : step ≤ 128)
    (free : step < 128 → slot_at slots (n + step) ≡ None) where
  -- no run passes what is swept: past it, place by place, stands what is free
  no_pass : (s : ℕ) (a : Slot) → s < 128 → slot_at slots (a.number + s) ≡ Some a → (k : ℕ) → k < s → (i : ℕ) → i < step
      → (a.number + k) % 128 ≡ (n + i) % 128 → ⊥
  no_pass s a low here k below i inside meets = by_place (cases_lt (i + (s - k)) step)
    where
      at_end : (a.number + s) % 128 ≡ (n + (i + (s - k))) % 128
      at_end = omega arith

      ends_free : (j : ℕ) → (a.number + s) % 128 ≡ (n + j) % 128 → slot_at slots (n + j) ≡ None → ⊥
      ends_free j same none = let free_too : slot_at slots (a.number + s) ≡ None = rw same none in cc

      by_reach : (x : ℕ) → step < 128 → x % 128 ≡ (n + step) % 128
          → (is_some (slot_at slots x) ≡ true) ⊎ ((j : ℕ) × (j < step) × (x % 128 ≡ (n + j) % 128)) → ⊥
      by_reach x few same (inl full) = let none : slot_at slots x ≡ None = rw same (free few) in cc
      by_reach x few same (inr again) =
          let alike : step ≡ again.0 = same_steps n step again.0 few (omega (arith, again.1)) (sym same ∙ again.2) in
          omega (arith, again.1)

      by_end : step ≤ i + (s - k) → step < 128 → (k + (step - i) < s) ⊎ (s ≤ k + (step - i)) → ⊥
      by_end far few (inl less) = by_reach (a.number + (k + (step - i))) few (omega arith) (is.reached s a low here (k + (step - i)) less)
      by_end far few (inr last) = ends_free step (omega arith) (free few)

      by_step : step ≤ i + (s - k) → (step < 128) ⊎ (128 ≤ step) → ⊥
      by_step far (inl few) = by_end far few (cases_lt (k + (step - i)) s)
      by_step far (inr all) = ends_free (i + (s - k) - 128) (omega (arith, at_end)) (is.swept (i + (s - k) - 128) (omega arith))

      by_place : (i + (s - k) < step) ⊎ (step ≤ i + (s - k)) → ⊥
      by_place (inl less) = ends_free (i + (s - k)) at_end (is.swept (i + (s - k)) less)
      by_place (inr far) = by_step far (cases_lt step 128)

  pub swept_probed : IsProbed slots
  swept_probed = record {
    whole = is.whole;
    once = is.once;
    reached = λ s a low here k below. by_reach s a low here k below (is.reached s a low here k below);
  }
    where
      by_reach : (s : ℕ) (a : Slot) → s < 128 → slot_at slots (a.number + s) ≡ Some a → (k : ℕ) → k < s
          → (is_some (slot_at slots (a.number + k)) ≡ true) ⊎ ((i : ℕ) × (i < step) × ((a.number + k) % 128 ≡ (n + i) % 128))
          → is_some (slot_at slots (a.number + k)) ≡ true
      by_reach s a _ here k below (inl full) = full
      by_reach s a low here k below (inr free) = absurd (no_pass s a low here k below free.0 free.1 free.2)

  pub swept_gone : (place : ℕ) → Leads slots n place → ⊥
  swept_gone = absent slots swept_probed n 0 (omega arith) (λ k a below here same. absurd (omega arith)) (λ room. at_home (cases_lt 0 step))
    where
      at_home : (0 < step) ⊎ (step ≤ 0) → slot_at slots (n + 0) ≡ None
      at_home (inl some) = is.swept 0 some
      at_home (inr none) = let same : step ≡ 0 = omega arith in rw same at (free (omega arith))
