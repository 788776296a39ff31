-- Facts on lists by their places.
use Rattle.std.proofs.Common.{Option, Some, None, ◌≡◌, ℕ, zero, suc, ◌+◌, ◌≤◌, ◌<◌, ◌==◌, ◌⊎◌, ⊎_elim, cond, refl, sym, subst}
use Rattle.std.proofs.Common.{◌∙◌, arith, List, [], ◌∷◌, ◌++◌, length, take, drop, map, replicate, set, get_or, inl, inr}
use Rattle.std.specs.List.{Any, range_with_len}
use Rattle.std.proofs.lemmas.Bool.{cases_lt, cond_both, eqb-true, eq-eqb, false≢true}
use Rattle.std.proofs.lemmas.List.{get_or_append_left, get_or-drop, get_or_past, get_or-replicate, get_or-set_other}
use Rattle.std.proofs.lemmas.List.{get_or-set_same, get_or-take, length-append, length-replicate, length-take}
use Rattle.std.proofs.lemmas.List.FromFn.{map-range_with_len_more}

-- a write to a list, read at each place
pub get_or-set_if : {A : Type 0} (xs : List A) (i n : ℕ) (a d : A) → i < length xs
    → get_or (set xs i a) n d ≡ cond (i == n) a (get_or xs n d)
get_or-set_if xs i n a d low =
    cond_both (i == n) a (get_or xs n d) (λ v. get_or (set xs i a) n d ≡ v)
    (λ e. rw (← eqb-true i n e) (get_or-set_same xs i a d low))
    (λ e. get_or-set_other xs i n a d (λ same. false≢true (sym e ∙ eq-eqb i n (sym same))))

-- a place of a list of like items, or past it
pub get_or-like : {X : Type 0} (n i : ℕ) (x : X) → get_or (replicate n x) i x ≡ x
get_or-like n i x = by_place (cases_lt i n)
  where
    by_place : (i < n) ⊎ (n ≤ i) → get_or (replicate n x) i x ≡ x
    by_place (inl low) = get_or-replicate n i x x low
    by_place (inr past) = get_or_past (replicate n x) i x (rw (length-replicate n x) past)

-- a place at which a number over another stands is one of the list
pub place_below : (xs : List ℕ) (i n : ℕ) → n < get_or xs i 0 → i < length xs
place_below [] i n h = absurd (omega (arith, h))
place_below (x ∷ xs) zero n h = omega arith
place_below (x ∷ xs) (suc i) n h = let rest = place_below xs i n h in omega (arith, rest)

-- a place that holds something is one of the list
pub there_below : {X : Type 0} (xs : List (Option X)) (n : ℕ) (x : X) → get_or xs n None ≡ Some x → n < length xs
there_below [] n x is = cc is
there_below (y ∷ ys) zero x is = omega arith
there_below (y ∷ ys) (suc n) x is = let low = there_below ys n x is in omega (arith, low)

-- every element of a piece is below a bound that the list keeps
pub piece_below : (n i : ℕ) (xs : List ℕ) → ((k : ℕ) → get_or xs k 0 < 256) → (k : ℕ) → get_or (take n (drop i xs)) k 0 < 256
piece_below n i xs small k =
    ⊎_elim (λ (low : k < n). rw (get_or-take n (drop i xs) k 0 low, get_or-drop i xs k 0) (small (i + k)))
    (λ (past : n ≤ k). let short : length (take n (drop i xs)) ≤ k = simp length-take (omega arith) in
    let none : get_or (take n (drop i xs)) k 0 ≡ 0 = get_or_past (take n (drop i xs)) k 0 short in omega arith)
    (cases_lt k n)

-- what holds of one of a list holds of one of a longer list
pub Any-front : {X : Type 0} (P : X → Type 0) (xs ys : List X) → Any P xs → Any P (xs ++ ys)
Any-front P xs ys (k, x, low, here, holds) =
    let longer : k < length (xs ++ ys) = omega (arith, length-append xs ys) in
    (k, x, longer, get_or_append_left xs ys x k low ∙ here, holds)

-- lists that are made of the numbers below a limit by functions that agree there
pub map_below : (f g : ℕ → ℕ) (n : ℕ) → ((k : ℕ) → k < n → f k ≡ g k) → map f (range_with_len 0 n) ≡ map g (range_with_len 0 n)
map_below f g zero same = refl
map_below f g (suc n) same =
    let next : n + 1 ≡ suc n = omega arith in
    subst (λ m. map f (range_with_len 0 m) ≡ map g (range_with_len 0 m)) next
    (map-range_with_len_more f 0 n n (omega arith)
    ∙ (λ i. map_below f g n (λ k low. same k (omega (arith, low))) i ++ same n (omega arith) i ∷ [])
    ∙ sym (map-range_with_len_more g 0 n n (omega arith)))
