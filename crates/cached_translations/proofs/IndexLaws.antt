-- A table that leads to the places of a cache: what it finds there, and what each change leaves of it.
use Rattle.std.proofs.Common.{◌≡◌, ◌≢◌, ℕ, ◌+◌, ◌<◌, ◌≤◌, false, List, [], ◌∷◌, ◌++◌, Option, Some}
use Rattle.std.proofs.Common.{None, is_some, length, get_or, set, refl, sym, ap, subst, ◌∙◌, ◌⊎◌, inl, inr, arith}
use Rattle.std.proofs.lemmas.Bool.{cases_lt, cases_eq}
use Rattle.std.proofs.lemmas.List.{length-set, length_push, get_or-map, get_or_append_left, get_or_push, get_or-set_same}
use Rattle.std.proofs.lemmas.List.{get_or-set_other}
use Rattle.cached_translations.specs.declared.cache.Translation.{Translation}
use Rattle.cached_translations.specs.declared.probe_table.Slot.{Slot}
use Rattle.cached_translations.specs.inner.Translations.{translation_of}
use Rattle.cached_translations.specs.inner.Probe.{Leads, IsProbed, Adds, Drops}
use Rattle.cached_translations.specs.inner.Index.{number_at, IsIndex, IsIndexOnly}
use Rattle.cached_translations.proofs.TranslationLaws.{translation_of-at, translation_of-number, translation_of-none}
use Rattle.cached_translations.proofs.ProbeLaws.{leads_to_one, used_none}

-- the page in a place is that of the translation there
pub number_at-is : (places : List Translation) (i : ℕ) (d : Translation) → i < length places
    → number_at places i ≡ (get_or places i d).number
number_at-is places i d low = get_or-map (λ (t : Translation). t.number) places i d 0 low

pub index_none : (slots : List (Option Slot)) → ((n p : ℕ) → Leads slots n p → ⊥) → IsIndex slots []
index_none slots none = record {
  leads = λ i low. absurd (omega arith);
  only = λ n p leads. absurd (none n p leads);
  count = used_none slots none;
}

module _ (slots : List (Option Slot)) (places : List Translation) (is : IsIndex slots places) where
  -- where a translation is found, the table leads there
  leads_where_found : (n : ℕ) (t : Translation) → translation_of places n ≡ Some t
      → (p : ℕ) × Leads slots n p × ((d : Translation) → get_or places p d ≡ t)
  leads_where_found n t found =
      let at = translation_of-at places n t found in
      let of_page : number_at places at.place ≡ n =
      number_at-is places at.place t at.within ∙ ap (λ (x : Translation). x.number) (at.here t) ∙ translation_of-number places n t found in
      (at.place, subst (λ m. Leads slots m at.place) of_page (is.leads at.place at.within), at.here)

  pub found_at : IsProbed slots → (n p : ℕ) (d : Translation) → Leads slots n p → translation_of places n ≡ Some (get_or places p d)
  found_at probed n p d leads = by_found (translation_of places n) refl
    where
      by_found : (o : Option Translation) → translation_of places n ≡ o → o ≡ Some (get_or places p d)
      by_found None found =
          let only = is.only n p leads in
          absurd (translation_of-none places n (ap is_some found) p d only.1 (sym (number_at-is places p d only.1) ∙ only.2))
      by_found (Some t) found =
          let there = leads_where_found n t found in
          let same : there.0 ≡ p = leads_to_one slots probed n there.0 p there.1 leads in
          ap Some (sym (there.2 d) ∙ ap (λ (k : ℕ). get_or places k d) same)

  pub found_nowhere : (n : ℕ) → ((p : ℕ) → Leads slots n p → ⊥) → translation_of places n ≡ None
  found_nowhere n none = by_found (translation_of places n) refl
    where
      by_found : (o : Option Translation) → translation_of places n ≡ o → o ≡ None
      by_found None found = refl
      by_found (Some t) found = let there = leads_where_found n t found in absurd (none there.0 there.1)

  pub leads_nowhere : (n : ℕ) → is_some (translation_of places n) ≡ false → (p : ℕ) → Leads slots n p → ⊥
  leads_nowhere n none p leads =
      let only = is.only n p leads in
      let d : Translation = record { number = 0; frame = record { 0 = 0 }; perm = record { r = false; w = false; x = false } } in
      translation_of-none places n none p d only.1 (sym (number_at-is places p d only.1) ∙ only.2)

  -- a translation at the end
  pub index_push : (new : List (Option Slot)) (t : Translation) (end : ℕ) → Adds slots new t.number end → end ≡ length places
      → IsIndex new (places ++ t ∷ [])
  index_push new t end added at_end = record { leads = leads; only = only; count = adds.count ∙ rw (is.count, length_push) refl }
    where
      adds : Adds slots new t.number (length places)
      adds = subst (λ k. Adds slots new t.number k) at_end added

      before : (i : ℕ) → i < length places → number_at (places ++ t ∷ []) i ≡ number_at places i
      before i low =
          number_at-is (places ++ t ∷ []) i t (rw length_push (omega arith))
          ∙ ap (λ (x : Translation). x.number) (get_or_append_left places (t ∷ []) t i low)
          ∙ sym (number_at-is places i t low)

      last : number_at (places ++ t ∷ []) (length places) ≡ t.number
      last =
          number_at-is (places ++ t ∷ []) (length places) t (rw length_push (omega arith))
          ∙ ap (λ (x : Translation). x.number) (get_or_push places t t (length places) refl)

      leads : (i : ℕ) → i < length (places ++ t ∷ []) → Leads new (number_at (places ++ t ∷ []) i) i
      leads i low = by_order (cases_lt i (length places))
        where
          by_order : (i < length places) ⊎ (length places ≤ i) → Leads new (number_at (places ++ t ∷ []) i) i
          by_order (inl less) =
              subst (λ m. Leads new m i) (sym (before i less)) ((adds.leads (number_at places i) i).1 (inl (is.leads i less)))
          by_order (inr most) =
              let same : length places ≡ i = omega (arith, simp length_push at low) in
              subst (λ k. Leads new (number_at (places ++ t ∷ []) k) k) same
              (subst (λ m. Leads new m (length places)) (sym last) ((adds.leads t.number (length places)).1 (inr (refl, refl))))

      only : IsIndexOnly new (places ++ t ∷ []) 0
      only n p found = by_case ((adds.leads n p).0 found)
        where
          by_case : Leads slots n p ⊎ ((n ≡ t.number) × (p ≡ length places))
              → (0 ≤ p) × (p < length (places ++ t ∷ [])) × (number_at (places ++ t ∷ []) p ≡ n)
          by_case (inl old) = let was = is.only n p old in (omega arith, rw length_push (omega (arith, was.1)), before p was.1 ∙ was.2)
          by_case (inr page) = (
            omega arith,
            rw length_push (omega (arith, page.1)),
            ap (λ (k : ℕ). number_at (places ++ t ∷ []) k) page.1 ∙ last
                ∙ sym page.0,
          )

  -- a translation in the place of another
  pub index_set : IsProbed slots → (mid new : List (Option Slot)) (i : ℕ) (t : Translation) → i < length places
      → Drops slots mid (number_at places i) → Adds mid new t.number i → IsIndex new (set places i t)
  index_set probed mid new i t low drops adds =
      record { leads = leads; only = only; count = adds.count ∙ rw length-set (omega (arith, drops.count, is.count)) }
    where
      here : number_at (set places i t) i ≡ t.number
      here =
          number_at-is (set places i t) i t (rw length-set low) ∙ ap (λ (x : Translation). x.number) (get_or-set_same places i t t low)

      apart : (j : ℕ) → j < length places → j ≢ i → number_at (set places i t) j ≡ number_at places j
      apart j less other =
          number_at-is (set places i t) j t (rw length-set less)
          ∙ ap (λ (x : Translation). x.number) (get_or-set_other places i j t t other)
          ∙ sym (number_at-is places j t less)

      leads : (j : ℕ) → j < length (set places i t) → Leads new (number_at (set places i t) j) j
      leads j less = by_place (cases_eq j i) (rw length-set at less)
        where
          by_place : (j ≡ i) ⊎ (j ≡ i → ⊥) → j < length places → Leads new (number_at (set places i t) j) j
          by_place (inl same) within =
              subst (λ k. Leads new (number_at (set places i t) k) k) (sym same)
              (subst (λ m. Leads new m i) (sym here) ((adds.leads t.number i).1 (inr (refl, refl))))
          by_place (inr other) within =
              let differ : number_at places j ≢ number_at places i =
              λ same. other (leads_to_one slots probed (number_at places j) j i (is.leads j within)
              (subst (λ m. Leads slots m i) (sym same) (is.leads i low))) in
              subst (λ m. Leads new m j) (sym (apart j within other))
              ((adds.leads (number_at places j) j).1 (inl ((drops.leads (number_at places j) j).1 (is.leads j within, differ))))

      only : IsIndexOnly new (set places i t) 0
      only n p found = by_case ((adds.leads n p).0 found)
        where
          by_case : Leads mid n p ⊎ ((n ≡ t.number) × (p ≡ i))
              → (0 ≤ p) × (p < length (set places i t)) × (number_at (set places i t) p ≡ n)
          by_case (inl old) =
              let kept = (drops.leads n p).0 old in
              let was = is.only n p kept.0 in
              let other : p ≢ i = λ same. kept.1 (sym was.2 ∙ ap (λ (k : ℕ). number_at places k) same) in
              (omega arith, rw length-set was.1, apart p was.1 other ∙ was.2)
          by_case (inr page) =
              (omega arith, rw length-set (omega (arith, page.1)), ap (λ (k : ℕ). number_at (set places i t) k) page.1 ∙ here ∙ sym page.0)

-- the page in the first of the places is taken out
pub index_forget : (old new : List (Option Slot)) (places : List Translation) (i : ℕ) (d : Translation) → IsIndexOnly old places i
    → ((n p : ℕ) → Leads new n p → Leads old n p) → ((p : ℕ) → Leads new (get_or places i d).number p → ⊥) → IsIndexOnly new places (i + 1)
index_forget old new places i d only fewer gone n p leads = by_place (only n p (fewer n p leads)) (cases_eq p i)
  where
    by_place : (i ≤ p) × (p < length places) × (number_at places p ≡ n) → (p ≡ i) ⊎ (p ≡ i → ⊥)
        → (i + 1 ≤ p) × (p < length places) × (number_at places p ≡ n)
    by_place was (inr other) = (omega (arith, was.0), was.1, was.2)
    by_place was (inl same) =
        let of_page : n ≡ (get_or places i d).number =
        sym was.2 ∙ number_at-is places p d was.1 ∙ ap (λ (k : ℕ). (get_or places k d).number) same in
        absurd (gone p (subst (λ m. Leads new m p) of_page leads))
