-- What follows from no record being forged.
use Rattle.std.proofs.Common.{◌≡◌, ℕ, ◌<◌, ◌≤◌, List, [], ◌∷◌, ◌++◌, length, get_or, take, refl, sym, ◌∙◌}
use Rattle.std.proofs.Common.{subst, inl, inr, ⊎_elim, arith}
use Rattle.std.specs.List.{All, Any}
use Rattle.std.proofs.lemmas.List.{length-append, get_or_append_left, get_or_push, take-append-le, take_all}
use Rattle.std.proofs.lemmas.List.Quantifiers.{Any-push}
use Rattle.seal_record.specs.Records.{Made, Given, Tagged, IsFitting, CarriesTag, IsAmong, Unforged, tag_of, made_of, given_of}
use Rattle.sgx_types.proofs.Lists.{Any-front}

All-front : {X : Type 0} (P : X → Type 0) (xs ys : List X) → All P (xs ++ ys) → All P xs
All-front P xs ys all k d low =
    let longer : k < length (xs ++ ys) = omega (arith, length-append xs ys) in
    let same : get_or (xs ++ ys) k d ≡ get_or xs k d = get_or_append_left xs ys d k low in
    subst P same (all k d longer)

All-last : {X : Type 0} (P : X → Type 0) (xs : List X) (last : X) → All P (xs ++ last ∷ []) → P last
All-last P xs last all =
    let longer : length xs < length (xs ++ last ∷ []) = omega (arith, length-append xs (last ∷ [])) in
    let here : get_or (xs ++ last ∷ []) (length xs) last ≡ last = get_or_push xs last last (length xs) refl in
    subst P here (all (length xs) last longer)

-- what is said of an earlier moment is said of a later one
among_more : (key : List ℕ) (made more : List Made) (given later : List Given) (one : Tagged) → IsAmong key made given one
    → IsAmong key (made ++ more) (given ++ later) one
among_more key made more given later one among =
    ⊎_elim (λ by_made. inl (Any-front (λ it. made_of it ≡ one) made more by_made))
    (λ by_given. inr (Any-front (λ it. IsFitting key it × (given_of it ≡ one)) given later by_given))
    among

carried_before : (key : List ℕ) (made more : List Made) (one : Given) → one.made ≤ length made
    → (IsFitting key one → CarriesTag (take one.made (made ++ more)) one.tag)
    → IsFitting key one → CarriesTag (take one.made made) one.tag
carried_before key made more one early carried fits =
    subst (λ records. CarriesTag records one.tag) (take-append-le one.made made more early) (carried fits)

pub Unforged-before : (key : List ℕ) (made more : List Made) (given later : List Given) → All (λ one. one.made ≤ length made) given
    → Unforged key (made ++ more) (given ++ later)
    → Unforged key made given
Unforged-before key made more given later early whole = record {
  carried = λ k d low. carried_before key made more (get_or given k d) (early k d low)
      (All-front (λ one. IsFitting key one → CarriesTag (take one.made (made ++ more)) one.tag) given later whole.carried k d low);
  apart = λ one other by_one by_other. whole.apart one other (among_more key made more given later one by_one)
      (among_more key made more given later other by_other);
}

-- a made record that carries a given record's tag is that record
pub fitting_made : (key : List ℕ) (made : List Made) (given : List Given) (last : Given)
    → All (λ one. one.tag ≡ tag_of key (made_of one)) made → last.made ≡ length made
    → Unforged key made (given ++ last ∷ []) → IsFitting key last → Any (λ one. made_of one ≡ given_of last) made
fitting_made key made given last own all_made whole fits =
    let carried : CarriesTag (take last.made made) last.tag =
    All-last (λ one. IsFitting key one → CarriesTag (take one.made made) one.tag) given last whole.carried fits in
    let every : take last.made made ≡ made = take_all last.made made (omega arith) in
    same_made (subst (λ records. CarriesTag records last.tag) every carried)
  where
    same_made : CarriesTag made last.tag → Any (λ one. made_of one ≡ given_of last) made
    same_made (k, x, low, here, is_tag) =
        let its_own : x.tag ≡ tag_of key (made_of x) = subst (λ one. one.tag ≡ tag_of key (made_of one)) here (own k x low) in
        let by_made : IsAmong key made (given ++ last ∷ []) (made_of x) = inl (k, x, low, here, refl) in
        let by_given : IsAmong key made (given ++ last ∷ []) (given_of last) =
        inr (Any-push (λ it. IsFitting key it × (given_of it ≡ given_of last)) given last (fits, refl)) in
        (k, x, low, here, whole.apart (made_of x) (given_of last) by_made by_given (sym its_own ∙ is_tag ∙ fits))
