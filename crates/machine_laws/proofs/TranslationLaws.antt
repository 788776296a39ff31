-- The translations that a processor holds, with their permissions as the machine has them, and without as the entries do.
use Rattle.std.proofs.Common.{◌≡◌, ℕ, ◌==◌, ◌||◌, Bool, true, false, cond, ltb, refl, ap, ◌∙◌, Some, List, []}
use Rattle.std.proofs.Common.{◌∷◌, ◌++◌, map, is_some, length, drop}
use Rattle.std.specs.List.{All, AllByRecursion}
use Rattle.std.proofs.lemmas.Bool.{cond_both, eqb-true}
use Rattle.std.proofs.lemmas.List.{length-map, map-append}
use Rattle.std.proofs.lemmas.List.Elements.{All-push, All-drop}
use Rattle.sgx_rules.specs.Processors.{holds_number, with_filled, newest}
use Rattle.cached_translations.specs.declared.cache.Translation.{Translation}
use Rattle.cached_translations.specs.inner.Translations.{translation_of, with_translation, newest as newest_translations}
use Rattle.machine_laws.specs.inner.Columns.{without_perm}

-- a page is among the translations with their permissions exactly where it is among those without
pub holds_number-map : (xs : List Translation) (n : ℕ) → holds_number (map without_perm xs) n ≡ is_some (translation_of xs n)
holds_number-map [] n = refl
holds_number-map (x ∷ xs) n = elim (x.number == n)
    as (λ b. (b || holds_number (map without_perm xs) n) ≡ is_some (cond b (Some x) (translation_of xs n)))
    [ true ↦ refl | false ↦ holds_number-map xs n ]

-- the oldest is the same
drop_one-map : (xs : List Translation) → map without_perm (drop 1 xs) ≡ drop 1 (map without_perm xs)
drop_one-map [] = refl
drop_one-map (x ∷ xs) = refl

-- one translation more
pub with_translation-map : (xs : List Translation) (t : Translation)
    → map without_perm (with_translation xs t) ≡ with_filled (map without_perm xs) (without_perm t)
with_translation-map xs t =
    rw (holds_number-map xs t.number)
    (elim (is_some (translation_of xs t.number)) as (λ b.
    map without_perm (cond b xs (newest_translations (xs ++ t ∷ []))) ≡ cond b (map without_perm xs)
    (newest (map without_perm xs ++ without_perm t ∷ []))) [
      | true ↦ refl
      | false ↦ newest-map (xs ++ t ∷ []) ∙ ap newest (map-append without_perm xs (t ∷ []))
    ])
  where
    newest-map : (ys : List Translation) → map without_perm (newest_translations ys) ≡ newest (map without_perm ys)
    newest-map ys =
        rw length-map
        (elim (ltb 64 (length ys)) as (λ b. map without_perm (cond b (drop 1 ys) ys) ≡ cond b (drop 1 (map without_perm ys))
        (map without_perm ys)) [ true ↦ drop_one-map ys | false ↦ refl ])

-- what holds of each translation and of one more
pub All-with_translation : (P : Translation → Type 0) (ys : List Translation) (x : Translation) → All P ys → P x
    → All P (with_translation ys x)
All-with_translation P ys x h k =
    let pushed = All-push P ys x h k in
    cond_both (is_some (translation_of ys x.number)) ys (newest_translations (ys ++ x ∷ [])) (All P) (λ _. h)
    (λ _. cond_both (ltb 64 (length (ys ++ x ∷ []))) (drop 1 (ys ++ x ∷ [])) (ys ++ x ∷ []) (All P) (λ _. All-drop P 1 _ pushed)
    (λ _. pushed))

-- a translation that is found is of the page that was looked for, and has what each has
pub found_there : (P : Translation → Type 0) (xs : List Translation) (n : ℕ) (t : Translation) → AllByRecursion P xs
    → translation_of xs n ≡ Some t → (t.number ≡ n) × P t
found_there P [] n t h is = cc
found_there P (x ∷ xs) n t h is = by_test (x.number == n) refl is (found_there P xs n t h.1)
  where
    by_test : (b : Bool) → (x.number == n) ≡ b → cond b (Some x) (translation_of xs n) ≡ Some t
        → (translation_of xs n ≡ Some t → (t.number ≡ n) × P t) → (t.number ≡ n) × P t
    by_test true e k more = let same : x ≡ t = cc in (rw (← same) (eqb-true x.number n e), rw (← same) h.0)
    by_test false e k more = more k
