-- A page more in a probed table.
use Rattle.std.proofs.Common.{◌≡◌, ℕ, ◌+◌, ◌<◌, ◌%◌, true, cond, List, Option, Some, None, is_some, length, get_or, set}
use Rattle.std.proofs.Common.{sym, ap, subst, ◌∙◌, ◌⊎◌, inl, inr, arith}
use Rattle.std.proofs.lemmas.List.{length-set, get_or-set_same}
use Rattle.std.proofs.lemmas.List.Sums.{sum_by-set}
use Rattle.cached_translations.specs.declared.probe_table.Slot.{Slot}
use Rattle.cached_translations.specs.inner.Probe.{Leads, IsProbed, IsFree, Adds, AreOnce, slot_at}
use Rattle.cached_translations.proofs.ProbeLaws.{same_steps, ReadAfterSet, written, kept, read_after_set, leads_at, leads_from}
use Rattle.cached_translations.proofs.ProbeLaws.{kept_in_use}
use Rattle.cached_translations.proofs.ProbeLaws.{number_of}

-- a page at the first free place of its run
module _ (slots : List (Option Slot)) (is : IsProbed slots) (e : Slot) (at : ℕ) (free : IsFree slots e.number at) where
  low : at < length slots
  low = omega (arith, is.whole, free.few, free.there)

  once : ((q : ℕ) → Leads slots e.number q → ⊥) → AreOnce (set slots at (Some e))
  once none i j a b li lj hi hj same = by_reads (read_after_set slots at i (Some e) low) (read_after_set slots at j (Some e) low)
    where
      other_page : (k : ℕ) (o : Slot) → k < 128 → get_or slots k None ≡ Some o → o.number ≡ e.number → ⊥
      other_page k o within here of_page =
          none o.place (subst (λ m. Leads slots m o.place) of_page (leads_from slots k o (omega (arith, is.whole)) here))

      by_reads : ReadAfterSet slots at i (Some e) → ReadAfterSet slots at j (Some e) → i ≡ j
      by_reads (written ei ri) (written ej rj) = ei ∙ sym ej
      by_reads (written ei ri) (kept nj rj) = absurd (other_page j b lj (sym rj ∙ hj) (sym same ∙ number_of a e (sym hi ∙ ri)))
      by_reads (kept ni ri) (written ej rj) = absurd (other_page i a li (sym ri ∙ hi) (same ∙ number_of b e (sym hj ∙ rj)))
      by_reads (kept ni ri) (kept nj rj) = is.once i j a b li lj (sym ri ∙ hi) (sym rj ∙ hj) same

  reached : (steps : ℕ) (a : Slot) → steps < 128 → slot_at (set slots at (Some e)) (a.number + steps) ≡ Some a
      → (k : ℕ) → k < steps → is_some (slot_at (set slots at (Some e)) (a.number + k)) ≡ true
  reached steps a few here k below =
      kept_in_use slots at ((a.number + k) % 128) e low (by_read (read_after_set slots at ((a.number + steps) % 128) (Some e) low))
    where
      by_read : ReadAfterSet slots at ((a.number + steps) % 128) (Some e) → is_some (slot_at slots (a.number + k)) ≡ true
      by_read (written same r) =
          let of_page : a.number ≡ e.number = number_of a e (sym here ∙ r) in
          let steps_are : steps ≡ free.steps = same_steps e.number steps free.steps few free.few (rw of_page at same ∙ sym free.there) in
          rw of_page (free.taken k (omega arith))
      by_read (kept other r) = is.reached steps a few (sym r ∙ here) k below

  pub probed_insert : ((q : ℕ) → Leads slots e.number q → ⊥) → IsProbed (set slots at (Some e))
  probed_insert none = record { whole = rw length-set is.whole; once = once none; reached = reached }

  to : (m q : ℕ) → Leads (set slots at (Some e)) m q → Leads slots m q ⊎ ((m ≡ e.number) × (q ≡ e.place))
  to m q leads = by_read (read_after_set slots at leads.0 (Some e) low) (leads_at (set slots at (Some e)) m q leads)
    where
      by_read : ReadAfterSet slots at leads.0 (Some e)
          → get_or (set slots at (Some e)) leads.0 None ≡ Some (record { number = m; place = q })
          → Leads slots m q ⊎ ((m ≡ e.number) × (q ≡ e.place))
      by_read (written same r) here =
          let o : Slot = record { number = m; place = q } in
          let is_page : o ≡ e = let both : Some o ≡ Some e = sym here ∙ r in cc in
          inr (ap (λ (s : Slot). s.number) is_page, ap (λ (s : Slot). s.place) is_page)
      by_read (kept other r) here =
          inl (leads_from slots leads.0 (record { number = m; place = q }) (rw length-set at leads.1) (sym r ∙ here))

  from : (m q : ℕ) → Leads slots m q ⊎ ((m ≡ e.number) × (q ≡ e.place)) → Leads (set slots at (Some e)) m q
  from m q (inr page) =
      let here : get_or (set slots at (Some e)) at None ≡ Some e = get_or-set_same slots at (Some e) None low in
      subst (λ k. Leads (set slots at (Some e)) k q) (sym page.0)
      (subst (λ k. Leads (set slots at (Some e)) e.number k) (sym page.1)
      (leads_from (set slots at (Some e)) at e (rw length-set low) here))
  from m q (inl leads) = by_read (read_after_set slots at leads.0 (Some e) low) (leads_at slots m q leads)
    where
      by_read : ReadAfterSet slots at leads.0 (Some e) → get_or slots leads.0 None ≡ Some (record { number = m; place = q })
          → Leads (set slots at (Some e)) m q
      by_read (written same r) here = let none : get_or slots leads.0 None ≡ None = rw same free.free in absurd cc
      by_read (kept other r) here =
          leads_from (set slots at (Some e)) leads.0 (record { number = m; place = q }) (rw length-set leads.1) (r ∙ here)

  pub adds_insert : Adds slots (set slots at (Some e)) e.number e.place
  adds_insert = record {
    leads = λ m q. (to m q, from m q);
    count =
        let sums = rw free.free at (sum_by-set (λ (o : Option Slot). cond (is_some o) 1 0) slots at (Some e) None low) in
        omega (arith, sums);
  }
