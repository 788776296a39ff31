-- A start more, and a start less, leave the open starts apart.
use Rattle.std.proofs.Common.{◌≡◌, ℕ, ◌<◌, ◌==◌, Bool, true, false, cond, refl, sym, ap, ◌∙◌, subst, Option, Some}
use Rattle.std.proofs.Common.{None, ◌⊎◌, inl, inr}
use Rattle.std.proofs.lemmas.Bool.{cond_both, eqb-true, eq-eqb, false≢true}
use Rattle.sgx_types.specs.declared.names.SlotAt.{SlotAt}
use Rattle.sgx_types.specs.inner.Places.{same_place}
use Rattle.sgx_rules.specs.inner.Starts.{BareStart}
use Rattle.sgx_types.proofs.Pages.{same_place-refl, same_places}
use Rattle.machine_copies.proofs.OpenStarts.{ended_cases, opened_cases}
use Rattle.machine_laws.specs.inner.Guarded.{AreApart, IsNamed}

-- .. of a frame that had none, with a slot that no open start named
pub started_apart : (frames : ℕ) (opened : ℕ → Option BareStart) (named : SlotAt → Bool) (f : ℕ) (x : BareStart) → f < frames
    → opened f ≡ None → named x.at ≡ false → AreApart frames opened named
    → AreApart frames (λ n. cond (f == n) (Some x) (opened n)) (λ slot. cond (same_place x.at slot) true (named slot))
started_apart frames opened named f x low none idle h = record {
  below = λ n y is. by_cases_below n y (opened_cases (f == n) x y (opened n) is);
  marked = λ n y is. cond_both (same_place x.at y.at) true (named y.at) (λ b. b ≡ true) (λ _. refl)
      (λ other. old_marked n y other (opened_cases (f == n) x y (opened n) is));
  named = λ slot. cond_both (same_place x.at slot) true (named slot) (λ b. b ≡ true → IsNamed now slot)
      (λ same _. record { frame = f; start = x; is_open = rw (eq-eqb f f refl) refl; names = same_places x.at slot same })
      (λ _ was. named_still slot (h.named slot was));
  alone = λ m n y z is too same.
      by_cases_alone m n y z same (opened_cases (f == m) x y (opened m) is) (opened_cases (f == n) x z (opened n) too);
}
  where
    now : ℕ → Option BareStart
    now n = cond (f == n) (Some x) (opened n)

    by_cases_below : (n : ℕ) (y : BareStart) → (((f == n) ≡ true) × (x ≡ y)) ⊎ (((f == n) ≡ false) × (opened n ≡ Some y)) → n < frames
    by_cases_below n y (inl k) = subst (λ (m : ℕ). m < frames) (eqb-true f n k.0) low
    by_cases_below n y (inr k) = h.below n y k.1

    old_marked : (n : ℕ) (y : BareStart) → same_place x.at y.at ≡ false
        → (((f == n) ≡ true) × (x ≡ y)) ⊎ (((f == n) ≡ false) × (opened n ≡ Some y)) → named y.at ≡ true
    old_marked n y other (inl k) =
        absurd (false≢true (sym other ∙ ap (λ (z : BareStart). same_place x.at z.at) (sym k.1) ∙ same_place-refl x.at))
    old_marked n y other (inr k) = h.marked n y k.1

    named_still : (slot : SlotAt) → IsNamed opened slot → IsNamed now slot
    named_still slot k = record {
      frame = k.frame;
      start = k.start;
      is_open = cond_both (f == k.frame) (Some x) (opened k.frame) (λ o. o ≡ Some k.start)
          (λ same. let was : opened f ≡ Some k.start = ap opened (eqb-true f k.frame same) ∙ k.is_open in cc (none, was)) (λ _. k.is_open);
      names = k.names;
    }

    other_slot : (n : ℕ) (y : BareStart) → opened n ≡ Some y → x.at ≡ y.at → ⊥
    other_slot n y is same = false≢true (sym idle ∙ ap named same ∙ h.marked n y is)

    by_cases_alone : (m n : ℕ) (y z : BareStart) → y.at ≡ z.at
        → (((f == m) ≡ true) × (x ≡ y)) ⊎ (((f == m) ≡ false) × (opened m ≡ Some y))
        → (((f == n) ≡ true) × (x ≡ z)) ⊎ (((f == n) ≡ false) × (opened n ≡ Some z)) → m ≡ n
    by_cases_alone m n y z same (inl a) (inl b) = sym (eqb-true f m a.0) ∙ eqb-true f n b.0
    by_cases_alone m n y z same (inl a) (inr b) = absurd (other_slot n z b.1 (ap (λ (v : BareStart). v.at) a.1 ∙ same))
    by_cases_alone m n y z same (inr a) (inl b) = absurd (other_slot m y a.1 (ap (λ (v : BareStart). v.at) b.1 ∙ sym same))
    by_cases_alone m n y z same (inr a) (inr b) = h.alone m n y z a.1 b.1 same

-- .. of a frame whose start has ended
pub ended_apart : (frames : ℕ) (opened : ℕ → Option BareStart) (named : SlotAt → Bool) (f : ℕ) (x : BareStart) → opened f ≡ Some x
    → AreApart frames opened named
    → AreApart frames (λ n. cond (f == n) None (opened n)) (λ slot. cond (same_place x.at slot) false (named slot))
ended_apart frames opened named f x its h = record {
  below = λ n y is. h.below n y (ended_cases (f == n) y (opened n) is).1;
  marked = λ n y is. let k = ended_cases (f == n) y (opened n) is in
      cond_both (same_place x.at y.at) false (named y.at) (λ b. b ≡ true)
      (λ same. absurd (false≢true (sym k.0 ∙ eq-eqb f n (h.alone f n x y its k.1 (same_places x.at y.at same)))))
      (λ _. h.marked n y k.1);
  named = λ slot. cond_both (same_place x.at slot) false (named slot) (λ b. b ≡ true → IsNamed now slot)
      (λ _ no. absurd (false≢true no)) (λ other was. named_still slot other (h.named slot was));
  alone = λ m n y z is too same.
      h.alone m n y z (ended_cases (f == m) y (opened m) is).1 (ended_cases (f == n) z (opened n) too).1 same;
}
  where
    now : ℕ → Option BareStart
    now n = cond (f == n) None (opened n)

    named_still : (slot : SlotAt) → same_place x.at slot ≡ false → IsNamed opened slot → IsNamed now slot
    named_still slot other k = record {
      frame = k.frame;
      start = k.start;
      is_open = cond_both (f == k.frame) None (opened k.frame) (λ o. o ≡ Some k.start)
          (λ same.
          let one : x ≡ k.start = let was = ap opened (eqb-true f k.frame same) ∙ k.is_open in cc (its, was) in
          absurd (false≢true (sym other ∙ ap (same_place x.at) (sym (ap (λ (v : BareStart). v.at) one ∙ k.names))
          ∙ same_place-refl x.at)))
          (λ _. k.is_open);
      names = k.names;
    }
