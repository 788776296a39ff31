-- What holds of the views of a list, item by item.
use Rattle.std.proofs.Common.{◌≡◌, ℕ, ◌+◌, ◌<◌, List, [], ◌∷◌, ◌++◌, length, get_or, map, take, All, refl, sym}
use Rattle.std.proofs.Common.{ap, ◌∙◌, arith}
use Rattle.std.proofs.lemmas.List.{get_or-map, length-map, map_push, take_more}
use Rattle.std.proofs.lemmas.List.Elements.{All-nil, All-cons, All-head, All-tail, All-get_or}

module _ {A B : Type 0} (view : A → B) (xs : List A) (i : ℕ) (x : A) (here : i < length xs) (is : x ≡ get_or xs i x) where
  view_at : view x ≡ get_or (map view xs) i (view x)
  view_at = ap view is ∙ sym (get_or-map view xs i x (view x) here)

  pub All-view_at : (P : B → Type 0) → All P (map view xs) → P (view x)
  All-view_at P all = rw view_at (All-get_or P (map view xs) i (view x) (rw (length-map xs view) here) all)

  pub views_more : map view (take (i + 1) xs) ≡ map view (take i xs) ++ view x ∷ []
  views_more = rw (take_more xs i x here, ← is) (map_push view (take i xs) x)

-- what holds of all views holds of the view of each item
pub All-unmap : {A B : Type 0} (view : A → B) (P : B → Type 0) (xs : List A) → All P (map view xs) → All (λ x. P (view x)) xs
All-unmap view P [] all = All-nil (λ x. P (view x))
All-unmap view P (x ∷ xs) all =
    All-cons (λ x. P (view x)) x xs (All-head P (view x) (map view xs) all) (All-unmap view P xs (All-tail P (view x) (map view xs) all))

pub single : {A : Type 0} (xs : List A) (x : A) → length xs ≡ 1 → x ≡ get_or xs 0 x → xs ≡ x ∷ []
single [] x len here = absurd (omega arith)
single (y ∷ []) x len here = rw (← here) refl
single (y ∷ z ∷ xs) x len here = absurd (omega arith)
