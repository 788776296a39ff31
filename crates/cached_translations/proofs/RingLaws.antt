-- A ring and the list of translations that it holds.
use Rattle.std.proofs.Common.{◌≡◌, ◌≢◌, ℕ, ◌+◌, ◌<◌, ◌≤◌, ◌%◌, false, List, [], ◌∷◌, ◌++◌, Option}
use Rattle.std.proofs.Common.{Some, None, is_some, length, take, drop, set, refl, sym, ap, ◌∙◌, ◌⊎◌, inl, inr, arith}
use Rattle.std.proofs.Common.{mod-eq_of_lt}
use Rattle.std.specs.Prelude.{AllPairs, vec_len}
use Rattle.std.specs.Option.{option_or}
use Rattle.std.proofs.lemmas.Bool.{lt-ltb, le-ltb, cases_lt}
use Rattle.std.proofs.lemmas.List.{append-nil, append_assoc, length_push, length-append, length-take, length-drop, length-set}
use Rattle.std.proofs.lemmas.List.{take-append-drop, take_more_set, take_all, drop_more, drop_all, drop-set-lt}
use Rattle.std.proofs.lemmas.List.{get_or_append_left}
use Rattle.std.proofs.lemmas.List.{get_or-append-add}
use Rattle.std.proofs.lemmas.List.Folds.{find-append}
use Rattle.cached_translations.specs.declared.cache.Translation.{Translation}
use Rattle.cached_translations.specs.declared.cache.Cache.TheInside.{Inside}
use Rattle.cached_translations.specs.inner.Translations.{translation_of, with_translation, FitsCache}
use Rattle.cached_translations.specs.inner.Ring.{around_from, IsRing}
use Rattle.cached_translations.proofs.TranslationLaws.{translation_of-at, translation_of-number}

pub length-around_from : (places : List Translation) (first : ℕ) → length (around_from places first) ≡ length places
length-around_from places first = simp (length-append, length-take, length-drop) (omega arith)

-- a ring with no free place has a translation in each
pub length-full : (ring : Inside) → IsRing ring → 64 ≤ vec_len ring.places → length ring.places.items ≡ 64
length-full ring is full = omega (arith, ring.places.ok.0, length-around_from ring.places.items ring.oldest, is.fits.within)

-- of two parts with no page twice, one at most has the page
translation_of-parts : (xs ys : List Translation) (number : ℕ) → AllPairs (λ (a b : Translation). a.number ≢ b.number) (ys ++ xs)
    → option_or (translation_of xs number) (translation_of ys number) ≡ option_or (translation_of ys number) (translation_of xs number)
translation_of-parts xs ys number distinct = by_cases (translation_of xs number) refl (translation_of ys number) refl
  where
    by_cases : (o : Option Translation) → translation_of xs number ≡ o → (p : Option Translation) → translation_of ys number ≡ p
        → option_or o p ≡ option_or p o
    by_cases None is None also = refl
    by_cases None is (Some y) also = refl
    by_cases (Some x) is None also = refl
    by_cases (Some x) is (Some y) also =
        let at_x = translation_of-at xs number x is in
        let at_y = translation_of-at ys number y also in
        let differ = distinct at_y.place (length ys + at_x.place) x (omega (arith, at_y.within))
        (rw length-append (omega (arith, at_x.within))) in
        let first = get_or_append_left ys xs x at_y.place at_y.within ∙ at_y.here x in
        let second = get_or-append-add ys xs at_x.place x ∙ at_x.here x in
        absurd (rw (first, second) at differ (translation_of-number ys number y also ∙ sym (translation_of-number xs number x is)))

-- the order in which the places are searched makes no difference
pub translation_of-around_from : (places : List Translation) (first number : ℕ) → FitsCache (around_from places first)
    → translation_of places number ≡ translation_of (around_from places first) number
translation_of-around_from places first number fits =
    let front = take first places in
    let back = drop first places in
    ap (λ (held : List Translation). translation_of held number) (sym (take-append-drop first places))
    ∙ find-append _ front back
    ∙ translation_of-parts front back number fits.distinct
    ∙ sym (find-append _ back front)

-- a push where a place is free
pub pushed : (places : List Translation) (first : ℕ) (t : Translation) → first ≡ 0 → length places < 64
    → is_some (translation_of (around_from places first) t.number) ≡ false
    → around_from (places ++ t ∷ []) first ≡ with_translation (around_from places first) t
pushed places first t at_0 room none =
    rw (none, at_0, append-nil places, append-nil (places ++ t ∷ []), le-ltb 64 (length (places ++ t ∷ [])) (rw length_push (omega arith)))
    refl

-- writing over the oldest where no place is free
turned : (places : List Translation) (first next : ℕ) (t d : Translation) → first < length places
    → ((first + 1 < length places) × (next ≡ first + 1)) ⊎ ((first + 1 ≡ length places) × (next ≡ 0))
    → around_from (set places first t) next ≡ drop 1 (around_from places first ++ t ∷ [])
turned places first next t d low (inl (inside, is)) =
    rw (is, drop-set-lt (first + 1) places first t (omega arith), take_more_set places first t low, drop_more places first d low)
    (sym (append_assoc (drop (first + 1) places) (take first places) (t ∷ [])))
turned places first next t d low (inr (last, is)) =
    let whole : set places first t ≡ take first places ++ t ∷ [] =
    sym (take_all (first + 1) (set places first t) (rw length-set (omega arith))) ∙ take_more_set places first t low in
    rw (is, append-nil, drop_more places first d low, drop_all (first + 1) places (omega arith)) whole

pub replaced : (places : List Translation) (first : ℕ) (t : Translation) → first < 64 → length places ≡ 64
    → is_some (translation_of (around_from places first) t.number) ≡ false
    → around_from (set places first t) ((first + 1) % 64) ≡ with_translation (around_from places first) t
replaced places first t low full none =
    rw (none, lt-ltb 64 (length (around_from places first ++ t ∷ [])) (rw (length_push, length-around_from) (omega arith)))
    (turned places first ((first + 1) % 64) t t (omega arith) (next (cases_lt (first + 1) 64)))
  where
    next : (first + 1 < 64) ⊎ (64 ≤ first + 1) → ((first + 1 < length places) × ((first + 1) % 64 ≡ first + 1))
        ⊎ ((first + 1 ≡ length places) × ((first + 1) % 64 ≡ 0))
    next (inl inside) = inl (omega arith, mod-eq_of_lt inside)
    next (inr last) = inr (omega arith, omega arith)
