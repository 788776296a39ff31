-- A refusal that is counted in its row.
use Rattle.std.proofs.Common.{◌≡◌, ℕ, zero, suc, ◌+◌, ◌<◌, true, false, List, [], ◌∷◌, ◌++◌, length, get_or, set}
use Rattle.std.proofs.Common.{refl, ap, subst, arith}
use Rattle.sgx_rules.specs.declared.entries.Action.{Action}
use Rattle.sgx_rules.specs.declared.refusals.Refusal.{Refusal}
use Rattle.trace_tally.specs.declared.refusals.RefusalCount.{RefusalCount}
use Rattle.trace_tally.specs.Tally.{is_of, one_more, with_refusal}

-- none of the first rows is of this kind
pub NoneBefore : Action → Refusal → ℕ → List RefusalCount → Type 0
NoneBefore action why zero rows = Unit {0}
NoneBefore action why (suc n) [] = Unit {0}
NoneBefore action why (suc n) (row ∷ rows) = (is_of row action why ≡ false) × NoneBefore action why n rows

pub none_yet : (action : Action) (why : Refusal) (rows : List RefusalCount) → NoneBefore action why 0 rows
unfolding NoneBefore
none_yet action why rows = tt

none_next : (action : Action) (why : Refusal) (n : ℕ) (rows : List RefusalCount) (d : RefusalCount) → n < length rows
    → NoneBefore action why n rows → is_of (get_or rows n d) action why ≡ false → NoneBefore action why (suc n) rows
unfolding NoneBefore
none_next action why n [] d within before here = absurd (omega (arith, within))
none_next action why zero (row ∷ rows) d within before here = (here, tt)
none_next action why (suc n) (row ∷ rows) d within before here =
    (before.0, none_next action why n rows d (omega (arith, within)) before.1 here)

pub none_more : (action : Action) (why : Refusal) (n : ℕ) (rows : List RefusalCount) (d : RefusalCount) → n < length rows
    → NoneBefore action why n rows → is_of (get_or rows n d) action why ≡ false → NoneBefore action why (n + 1) rows
none_more action why n rows d within before here =
    let next : suc n ≡ n + 1 = omega arith in
    subst (λ k. NoneBefore action why k rows) next (none_next action why n rows d within before here)

pub counted_here : (action : Action) (why : Refusal) (place n : ℕ) (rows : List RefusalCount) (d : RefusalCount) → n < length rows
    → NoneBefore action why n rows → is_of (get_or rows n d) action why ≡ true
    → set rows n (one_more (get_or rows n d)) ≡ with_refusal action why place rows
unfolding NoneBefore
counted_here action why place n [] d within before here = absurd (omega (arith, within))
counted_here action why place zero (row ∷ rows) d within before here = rw here refl
counted_here action why place (suc n) (row ∷ rows) d within before here =
    rw before.0 (ap (λ rest. row ∷ rest) (counted_here action why place n rows d (omega (arith, within)) before.1 here))

pub counted_new : (action : Action) (why : Refusal) (place n : ℕ) (rows : List RefusalCount) → length rows ≡ n
    → NoneBefore action why n rows
    → rows ++ record { action = action; why = why; count = 1; place = place } ∷ [] ≡ with_refusal action why place rows
unfolding NoneBefore
counted_new action why place n [] all before = refl
counted_new action why place zero (row ∷ rows) all before = absurd (omega (arith, all))
counted_new action why place (suc n) (row ∷ rows) all before =
    rw before.0 (ap (λ rest. row ∷ rest) (counted_new action why place n rows (omega (arith, all)) before.1))
