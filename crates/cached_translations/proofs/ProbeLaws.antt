-- A probed table: what a search of it finds, and what a write leaves of it.
use Rattle.std.proofs.Common.{◌≡◌, ℕ, ◌+◌, ◌-◌, ◌<◌, ◌≤◌, ◌%◌, true, false, cond, List, [], ◌∷◌, Option}
use Rattle.std.proofs.Common.{Some, None, is_some, length, get_or, set, replicate, refl, sym, ap, subst, ◌∙◌, ◌⊎◌, inl, inr}
use Rattle.std.proofs.Common.{suc, arith}
use Rattle.std.proofs.lemmas.Bool.{cases_lt, cases_eq, cases_order}
use Rattle.std.proofs.lemmas.List.{length-replicate, get_or-replicate, get_or_default, get_or_past, get_or-set_same}
use Rattle.std.proofs.lemmas.List.{get_or-set_other}
use Rattle.std.proofs.lemmas.List.Sums.{sum_by-cons}
use Rattle.cached_translations.specs.declared.probe_table.Slot.{Slot}
use Rattle.cached_translations.specs.inner.Probe.{Leads, IsProbed, used, slot_at}

-- how many places past a number's own a place is
pub record StepsTo (number at : ℕ) : Type 0 where
  pub steps : ℕ
  pub few : steps < 128
  pub there : (number + steps) % 128 ≡ at

pub steps_to : (number at : ℕ) → at < 128 → StepsTo number at
steps_to number at low = record { steps = (at + 128 - number % 128) % 128; few = omega arith; there = omega arith }

pub same_steps : (n i j : ℕ) → i < 128 → j < 128 → (n + i) % 128 ≡ (n + j) % 128 → i ≡ j
same_steps n i j a b e = omega arith

-- what a write leaves at a place
pub data ReadAfterSet (slots : List (Option Slot)) (i j : ℕ) (x : Option Slot) : Type 0 where
  written : j ≡ i → get_or (set slots i x) j None ≡ x → ReadAfterSet slots i j x
  kept : (j ≡ i → ⊥) → get_or (set slots i x) j None ≡ get_or slots j None → ReadAfterSet slots i j x

pub read_after_set : (slots : List (Option Slot)) (i j : ℕ) (x : Option Slot) → i < length slots → ReadAfterSet slots i j x
read_after_set slots i j x low = by_place (cases_eq j i)
  where
    by_place : (j ≡ i) ⊎ (j ≡ i → ⊥) → ReadAfterSet slots i j x
    by_place (inl same) = written same (rw same (get_or-set_same slots i x None low))
    by_place (inr other) = kept other (get_or-set_other slots i j x None other)

-- a place where the table leads from a page
pub leads_at : (slots : List (Option Slot)) (n p : ℕ) (l : Leads slots n p)
    → get_or slots l.0 None ≡ Some (record { number = n; place = p })
leads_at slots n p l = get_or_default slots l.0 None (Some (record { number = n; place = p })) l.1 ∙ l.2

pub leads_from : (slots : List (Option Slot)) (at : ℕ) (a : Slot) → at < length slots → get_or slots at None ≡ Some a
    → Leads slots a.number a.place
leads_from slots at a low here = (at, low, get_or_default slots at (Some a) None low ∙ here)

-- a search that saw other pages up to a free place, or in all places, has seen that the page is not there
pub absent : (slots : List (Option Slot)) → IsProbed slots → (number step : ℕ) → step ≤ 128
    → ((k : ℕ) (a : Slot) → k < step → slot_at slots (number + k) ≡ Some a → a.number ≡ number → ⊥)
    → (step < 128 → slot_at slots (number + step) ≡ None)
    → (place : ℕ) → Leads slots number place → ⊥
absent slots is number step low others free place leads =
    let e : Slot = record { number = number; place = place } in
    let to = steps_to number leads.0 (omega (arith, leads.1, is.whole)) in
    let here : slot_at slots (number + to.steps) ≡ Some e = rw to.there (leads_at slots number place leads) in
    by_order e to.steps to.few refl here (cases_order to.steps step)
  where
    by_order : (e : Slot) (s : ℕ) → s < 128 → e.number ≡ number → slot_at slots (number + s) ≡ Some e
        → (s ≡ step) ⊎ ((s < step) ⊎ (step < s)) → ⊥
    by_order e s few of_page here (inl same) =
        let none = free (omega arith) in
        let at_step : slot_at slots (number + step) ≡ Some e = rw (← same) here in
        cc
    by_order e s few of_page here (inr (inl below)) = others s e below here of_page
    by_order e s few of_page here (inr (inr above)) =
        let none = free (omega arith) in
        let own = subst (λ (m : ℕ). slot_at slots (m + s) ≡ Some e) (sym of_page) here in
        let reached = rw of_page at (is.reached s e few own step above) in
        cc

-- a table with fewer pages than places has a free place
pub some_free : (slots : List (Option Slot)) → used slots < length slots → (i : ℕ) × (i < length slots) × (get_or slots i None ≡ None)
some_free [] few = absurd (omega arith)
some_free (None ∷ slots) few = (0, omega arith, refl)
some_free (Some a ∷ slots) few =
    let more : used (Some a ∷ slots) ≡ 1 + used slots = sum_by-cons (λ (o : Option Slot). cond (is_some o) 1 0) (Some a) slots in
    let rest = some_free slots (omega (arith, more)) in
    (suc rest.0, omega (arith, rest.1), rest.2)

-- .. so a search for it ends
pub still_few : (slots : List (Option Slot)) → length slots ≡ 128 → used slots < 128 → (number step : ℕ)
    → ((k : ℕ) → k < step → is_some (slot_at slots (number + k)) ≡ true) → step < 128
still_few slots whole room number step taken =
    let free = some_free slots (omega arith) in
    let to = steps_to number free.0 (omega (arith, free.1)) in
    let at : slot_at slots (number + to.steps) ≡ None = rw to.there free.2 in
    by_order to.steps to.few at (cases_lt to.steps step)
  where
    by_order : (s : ℕ) → s < 128 → slot_at slots (number + s) ≡ None → (s < step) ⊎ (step ≤ s) → step < 128
    by_order s few none (inl below) = let full = taken s below in absurd cc
    by_order s few none (inr above) = omega arith

-- a place in use stays so when another comes into use
pub kept_in_use : (slots : List (Option Slot)) (at j : ℕ) (a : Slot) → at < length slots → is_some (get_or slots j None) ≡ true
    → is_some (get_or (set slots at (Some a)) j None) ≡ true
kept_in_use slots at j a low is = by_read (read_after_set slots at j (Some a) low)
  where
    by_read : ReadAfterSet slots at j (Some a) → is_some (get_or (set slots at (Some a)) j None) ≡ true
    by_read (written same r) = rw r refl
    by_read (kept other r) = rw r is

-- equal slots are of one page
pub number_of : (a b : Slot) → Some a ≡ Some b → a.number ≡ b.number
number_of a b e = let same : a ≡ b = cc in ap (λ (s : Slot). s.number) same

pub none_from_test : (o : Option Slot) → is_some o ≡ false → o ≡ None
none_from_test None is = refl
none_from_test (Some a) is = cc

-- one more place that is in use
pub taken_more : (slots : List (Option Slot)) (n step : ℕ) → ((k : ℕ) → k < step → is_some (slot_at slots (n + k)) ≡ true)
    → is_some (slot_at slots (n + step)) ≡ true
    → (k : ℕ) → k < step + 1 → is_some (slot_at slots (n + k)) ≡ true
taken_more slots n step taken here k below = by_order (cases_lt k step)
  where
    by_order : (k < step) ⊎ (step ≤ k) → is_some (slot_at slots (n + k)) ≡ true
    by_order (inl less) = taken k less
    by_order (inr most) = let same : k ≡ step = omega arith in rw same here

-- one more place that is another page's
pub others_more : (slots : List (Option Slot)) (n step : ℕ) (o : Slot)
    → ((k : ℕ) (a : Slot) → k < step → slot_at slots (n + k) ≡ Some a → a.number ≡ n → ⊥) → slot_at slots (n + step) ≡ Some o
    → (o.number ≡ n → ⊥)
    → (k : ℕ) (a : Slot) → k < step + 1 → slot_at slots (n + k) ≡ Some a → a.number ≡ n → ⊥
others_more slots n step o others next other k a below here of_page = by_order (cases_lt k step)
  where
    by_order : (k < step) ⊎ (step ≤ k) → ⊥
    by_order (inl less) = others k a less here of_page
    by_order (inr most) = let same : k ≡ step = omega arith in other (number_of o a (sym next ∙ rw same at here) ∙ of_page)

-- a table of free places alone
abbrev pub free_places : ℕ → List (Option Slot)
free_places n = replicate n None

never_in_use : (n i : ℕ) (a : Slot) → get_or (free_places n) i None ≡ Some a → ⊥
never_in_use n i a here = by_place (cases_lt i n)
  where
    by_place : (i < n) ⊎ (n ≤ i) → ⊥
    by_place (inl low) = let none : get_or (free_places n) i None ≡ None = get_or-replicate n i None None low in cc
    by_place (inr far) =
        let none : get_or (free_places n) i None ≡ None = get_or_past (free_places n) i None (rw length-replicate far) in cc

pub free_places_probed : (n : ℕ) → n ≡ 128 → IsProbed (free_places n)
free_places_probed n size = record {
  whole = length-replicate n None ∙ size;
  once = λ i j a b li lj hi hj same. absurd (never_in_use n i a hi);
  reached = λ steps a few here k below. absurd (never_in_use n ((a.number + steps) % 128) a here);
}

pub free_places_lead : (n m q : ℕ) → Leads (free_places n) m q → ⊥
free_places_lead n m q leads = never_in_use n leads.0 (record { number = m; place = q }) (leads_at (free_places n) m q leads)

-- a table that leads from no page has no place in use
none_in_use : (slots : List (Option Slot)) → ((i : ℕ) (a : Slot) → i < length slots → get_or slots i None ≡ Some a → ⊥) → used slots ≡ 0
none_in_use [] none = refl
none_in_use (None ∷ slots) none =
    let more : used (None ∷ slots) ≡ 0 + used slots = sum_by-cons (λ (o : Option Slot). cond (is_some o) 1 0) None slots in
    let rest = none_in_use slots (λ i a low here. none (suc i) a (omega arith) here) in
    omega (arith, more, rest)
none_in_use (Some a ∷ slots) none = absurd (none 0 a (omega arith) refl)

pub used_none : (slots : List (Option Slot)) → ((n p : ℕ) → Leads slots n p → ⊥) → used slots ≡ 0
used_none slots none = none_in_use slots (λ i a low here. none a.number a.place (leads_from slots i a low here))

-- the table leads from a page to one place
pub leads_to_one : (slots : List (Option Slot)) → IsProbed slots → (n p q : ℕ) → Leads slots n p → Leads slots n q → p ≡ q
leads_to_one slots is n p q first second =
    let a : Slot = record { number = n; place = p } in
    let b : Slot = record { number = n; place = q } in
    let here = leads_at slots n p first in
    let there = leads_at slots n q second in
    let same = is.once first.0 second.0 a b (omega (arith, first.1, is.whole)) (omega (arith, second.1, is.whole)) here there refl in
    place_of_same a b (sym here ∙ rw same there)
  where
    place_of_same : (a b : Slot) → Some a ≡ Some b → a.place ≡ b.place
    place_of_same a b e = let alike : a ≡ b = cc in ap (λ (s : Slot). s.place) alike
