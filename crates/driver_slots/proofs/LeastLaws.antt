-- One page more in the search for the page with the least number of those that have a slot that is not out.
use Rattle.std.proofs.Common.{◌≡◌, ℕ, ◌+◌, ◌<◌, ◌≤◌, true, false, List, length, get_or, sym, subst, ◌∙◌}
use Rattle.std.proofs.Common.{Option, Some, None, arith, ⊎_elim}
use Rattle.std.proofs.lemmas.Bool.{cases_eq, false≢true}
use Rattle.driver_slots.specs.inner.Keeper.{ArrayView}
use Rattle.driver_slots.specs.inner.Least.{is_full_at, IsLeastAt, IsLeastBelow}

pub next_first : (xs : List ArrayView) (place : ℕ) → place < length xs → IsLeastBelow xs None place
    → ((d : ArrayView) → is_full_at xs place d ≡ false) → IsLeastAt xs place (place + 1)
next_first xs place within before room = record {
  low = omega arith;
  within = within;
  room = room;
  least_of = λ d k low free. ⊎_elim (λ same. subst (λ n. (get_or xs place d).va ≤ (get_or xs n d).va) (sym same) (omega arith))
      (λ other. absurd (false≢true (sym free ∙ before d k (omega arith)))) (cases_eq k place);
}

pub next_less : (xs : List ArrayView) (least place : ℕ) → place < length xs → IsLeastAt xs least place
    → ((d : ArrayView) → is_full_at xs place d ≡ false) → ((d : ArrayView) → (get_or xs place d).va < (get_or xs least d).va)
    → IsLeastAt xs place (place + 1)
next_less xs least place within before room less = record {
  low = omega arith;
  within = within;
  room = room;
  least_of = λ d k low free. ⊎_elim (λ same. subst (λ n. (get_or xs place d).va ≤ (get_or xs n d).va) (sym same) (omega arith))
      (λ other. let h = before.least_of d k (omega arith) free in let less_at = less d in omega arith) (cases_eq k place);
}

pub next_later : (xs : List ArrayView) (least place : ℕ) → IsLeastAt xs least place
    → ((d : ArrayView) → (get_or xs least d).va ≤ (get_or xs place d).va) → IsLeastAt xs least (place + 1)
next_later xs least place before later = record {
  low = let l = before.low in omega arith;
  within = before.within;
  room = before.room;
  least_of = λ d k low free. ⊎_elim (λ same. subst (λ n. (get_or xs least d).va ≤ (get_or xs n d).va) (sym same) (later d))
      (λ other. before.least_of d k (omega arith) free) (cases_eq k place);
}

full_none : (xs : List ArrayView) (place : ℕ) → IsLeastBelow xs None place → ((d : ArrayView) → is_full_at xs place d ≡ true)
    → IsLeastBelow xs None (place + 1)
full_none xs place before full = λ d k low.
    ⊎_elim (λ same. subst (λ n. is_full_at xs n d ≡ true) (sym same) (full d)) (λ other. before d k (omega arith)) (cases_eq k place)

full_some : (xs : List ArrayView) (least place : ℕ) → IsLeastAt xs least place → ((d : ArrayView) → is_full_at xs place d ≡ true)
    → IsLeastAt xs least (place + 1)
full_some xs least place before full = record {
  low = let l = before.low in omega arith;
  within = before.within;
  room = before.room;
  least_of = λ d k low free. ⊎_elim
      (λ same. absurd (false≢true (sym free ∙ subst (λ n. is_full_at xs n d ≡ true) (sym same) (full d))))
      (λ other. before.least_of d k (omega arith) free) (cases_eq k place);
}

pub next_full : (xs : List ArrayView) (o : Option ℕ) (place : ℕ) → IsLeastBelow xs o place
    → ((d : ArrayView) → is_full_at xs place d ≡ true) → IsLeastBelow xs o (place + 1)
next_full xs None place before full = full_none xs place before full
next_full xs (Some least) place before full = full_some xs least place before full
