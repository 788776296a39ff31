-- What stays true of the translations that a processor holds.
use Rattle.std.proofs.Common.{◌≡◌, ◌≢◌, ℕ, ◌<◌, ◌≤◌, ◌^◌, suc, zero, Bool, true, false, cond, eqb, ltb, List}
use Rattle.std.proofs.Common.{[], ◌∷◌, ◌++◌, Some, None, is_some, length, get_or, drop, refl, subst, arith}
use Rattle.std.specs.Prelude.{All, AllPairs}
use Rattle.std.proofs.lemmas.Bool.{eqb-true, eqb-false, ltb-true, ltb-false}
use Rattle.std.proofs.lemmas.List.{length_push, length-drop}
use Rattle.std.proofs.lemmas.List.Elements.{All-nil, All-head, All-tail, All-push, All-drop}
use Rattle.std.proofs.lemmas.List.Quantifiers.{all_pairs_push, all_pairs_remove}
use Rattle.cached_translations.specs.declared.cache.Translation.{Translation}
use Rattle.cached_translations.specs.inner.Translations.{translation_of, newest, with_translation, FitsCache}

-- a translation in a list, with its place
pub record IsAt (held : List Translation) (t : Translation) : Type 0 where
  pub place : ℕ
  pub within : place < length held
  pub here : (d : Translation) → get_or held place d ≡ t

-- the translation that is found stands in the list
pub translation_of-at : (held : List Translation) (number : ℕ) (t : Translation) → translation_of held number ≡ Some t → IsAt held t
translation_of-at [] number t found = cc
translation_of-at (x ∷ held) number t found = by_test (eqb x.number number) found (translation_of-at held number t)
  where
    by_test : (b : Bool) → cond b (Some x) (translation_of held number) ≡ Some t → (translation_of held number ≡ Some t → IsAt held t)
        → IsAt (x ∷ held) t
    by_test true same rest = record { place = 0; within = omega arith; here = λ d. cc }
    by_test false later rest = let at = rest later in record { place = suc at.place; within = omega (arith, at.within); here = at.here }

-- .. and it is of the page
pub translation_of-number : (held : List Translation) (number : ℕ) (t : Translation) → translation_of held number ≡ Some t
    → t.number ≡ number
translation_of-number [] number t found = cc
translation_of-number (x ∷ held) number t found = by_test (eqb x.number number) refl found (translation_of-number held number t)
  where
    by_test : (b : Bool) → eqb x.number number ≡ b → cond b (Some x) (translation_of held number) ≡ Some t
        → (translation_of held number ≡ Some t → t.number ≡ number)
        → t.number ≡ number
    by_test true is same rest = let e = eqb-true x.number number is in cc
    by_test false is later rest = rest later

-- .. and what is true of each translation is true of it
pub translation_of-all : (P : Translation → Type 0) (held : List Translation) (number : ℕ) (t : Translation)
    → translation_of held number ≡ Some t → All P held → P t
translation_of-all P [] number t found all = cc
translation_of-all P (x ∷ held) number t found all =
    by_test (eqb x.number number) found (λ later. translation_of-all P held number t later (All-tail P x held all))
  where
    by_test : (b : Bool) → cond b (Some x) (translation_of held number) ≡ Some t → (translation_of held number ≡ Some t → P t) → P t
    by_test true same rest = let e : x ≡ t = cc in subst P e (All-head P x held all)
    by_test false later rest = rest later

-- no translation is of a page whose number is past 32 bits
pub translation_of-past : (held : List Translation) (number : ℕ) → All (λ (t : Translation). t.number < 2 ^ 32) held → 2 ^ 32 ≤ number
    → translation_of held number ≡ None
translation_of-past [] number small past = refl
translation_of-past (x ∷ held) number small past =
    by_test (eqb x.number number) refl (translation_of-past held number (All-tail (λ (t : Translation). t.number < 2 ^ 32) x held small)
    past)
  where
    by_test : (b : Bool) → eqb x.number number ≡ b → translation_of held number ≡ None → cond b (Some x) (translation_of held number) ≡ None
    by_test true is rest =
        absurd (omega (arith, eqb-true x.number number is, All-head (λ (t : Translation). t.number < 2 ^ 32) x held small))
    by_test false is rest = rest

-- no translation is of a page that is not found
pub translation_of-none : (held : List Translation) (number : ℕ) → is_some (translation_of held number) ≡ false
    → (k : ℕ) (d : Translation) → k < length held → (get_or held k d).number ≢ number
translation_of-none [] number none = λ k d low. absurd (omega arith)
translation_of-none (x ∷ held) number none = by_test (eqb x.number number) refl none (translation_of-none held number)
  where
    by_test : (b : Bool) → eqb x.number number ≡ b → is_some (cond b (Some x) (translation_of held number)) ≡ false
        → (is_some (translation_of held number) ≡ false → (k : ℕ) (d : Translation) → k < length held → (get_or held k d).number ≢ number)
        → (k : ℕ) (d : Translation) → k < suc (length held) → (get_or (x ∷ held) k d).number ≢ number
    by_test true is none rest k d low = cc
    by_test false is none rest zero d low = eqb-false x.number number is
    by_test false is none rest (suc k) d low = rest none k d (omega arith)

-- a cache starts empty
pub FitsCache-empty : FitsCache []
FitsCache-empty = record { within = omega arith; distinct = λ i j d below in_range. absurd (omega arith); small = All-nil _ }

-- the newest of some translations, which are one more than fit at most, fit
newest-fits : (held : List Translation) → length held ≤ 65 → AllPairs (λ (a b : Translation). a.number ≢ b.number) held
    → All (λ (t : Translation). t.number < 2 ^ 32) held → FitsCache (newest held)
newest-fits held few distinct small = by_test (ltb 64 (length held)) refl
  where
    by_test : (b : Bool) → ltb 64 (length held) ≡ b → FitsCache (cond b (drop 1 held) held)
    by_test true is = record {
      within = rw length-drop (omega arith);
      distinct = all_pairs_remove (λ (a b : Translation). a.number ≢ b.number) held 0 (omega (arith, ltb-true 64 (length held) is))
          distinct;
      small = All-drop (λ (t : Translation). t.number < 2 ^ 32) 1 held small;
    }
    by_test false is = record { within = ltb-false 64 (length held) is; distinct = distinct; small = small }

-- filling keeps a cache within its places, with no page twice
pub FitsCache-with_translation : (held : List Translation) (t : Translation) → t.number < 2 ^ 32 → FitsCache held
    → FitsCache (with_translation held t)
FitsCache-with_translation held t low h = by_test (is_some (translation_of held t.number)) refl
  where
    by_test : (b : Bool) → is_some (translation_of held t.number) ≡ b → FitsCache (cond b held (newest (held ++ t ∷ [])))
    by_test true is = h
    by_test false is =
        newest-fits (held ++ t ∷ []) (rw length_push (omega (arith, h.within)))
        (all_pairs_push (λ (a b : Translation). a.number ≢ b.number) held t h.distinct (translation_of-none held t.number is))
        (All-push (λ (x : Translation). x.number < 2 ^ 32) held t h.small low)
