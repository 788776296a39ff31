-- A page is held exactly where the entries say so.
use Rattle.std.proofs.Common.{◌≡◌, ◌≢◌, ℕ, zero, suc, ◌+◌, ◌-◌, ◌<◌, ◌≤◌, ◌==◌, ◌||◌, Bool, true}
use Rattle.std.proofs.Common.{false, if◌then◌else◌, List, [], ◌∷◌, ◌++◌, length, replicate, None, slice_set, refl, sym, ap}
use Rattle.std.proofs.Common.{subst, ◌∙◌, arith}
use Rattle.std.proofs.lemmas.Bool.{eqb-true, eqb-false}
use Rattle.std.proofs.lemmas.List.{get_or-set_other, length-set}
use Rattle.std.proofs.Math.Bool.{or-false}
use Rattle.sgx_types.specs.declared.names.Actor.TheVariants as actors
use Rattle.sgx_rules.specs.declared.entries.Entry.{Entry}
use Rattle.sgx_types.specs.declared.names.Cpu.{Cpu}
use Rattle.sgx_types.specs.declared.names.Page.{Page}
use Rattle.sgx_rules.specs.declared.entries.Event.{Event}
use Rattle.sgx_types.specs.Pages.{same_page}
use Rattle.sgx_types.proofs.Pages.{same_pages}
use Rattle.sgx_types.proofs.Truths.{or_swap}
use Rattle.driver_laws.proofs.SoundLaws.{entry_of}
use Rattle.driver_tables.proofs.FirstLaws.{all_same}
use Rattle.job_grammar.specs.Jobs.{JobView}
use Rattle.driver_list.specs.inner.Holds.{holds_page, is_held as is_held_by, joined, own_of}
use Rattle.driver_rules.specs.Holds.{builder_holds, holds, is_among, is_held, is_held_below}
use Rattle.driver_rules.specs.Needs.{listed}
use Rattle.driver_tables.specs.inner.Held.{ShowsHolds}

-- one of the first so many lists has the page
abbrev any_below : List (List Page) → Page → ℕ → Bool
any_below own g zero = false
any_below own g (suc n) = holds_page (own_of own n) g || any_below own g n

-- the first list apart from the others
below_cons : (x : List Page) (xs : List (List Page)) (g : Page) (n : ℕ)
    → any_below (x ∷ xs) g (suc n) ≡ (holds_page x g || any_below xs g n)
below_cons x xs g zero = refl
below_cons x xs g (suc n) =
    ap (λ b. holds_page (own_of xs n) g || b) (below_cons x xs g n) ∙ or_swap (holds_page (own_of xs n) g) (holds_page x g)
    (any_below xs g n)

any_is_below : (own : List (List Page)) (g : Page) → is_held_by own g ≡ any_below own g (length own)
any_is_below [] g = refl
any_is_below (x ∷ xs) g = ap (λ b. holds_page x g || b) (any_is_below xs g) ∙ sym (below_cons x xs g (length xs))

module _ (j : JobView) (own : List (List Page)) (past : List Entry) (s : ShowsHolds j own past) (g : Page) where
  -- so many processors from the first on
  few_below : (n : ℕ) → n ≤ length j.scripts → any_below own g n ≡ is_held_below j past g n
  few_below zero low = refl
  few_below (suc n) low =
      ap (λ b. b || any_below own g n) (s.cpus n g (omega (arith, low))) ∙ ap (λ b. is_among (holds j past n) g || b)
      (few_below n (omega (arith, low)))

  -- those behind the last processor hold nothing
  none_more : (n : ℕ) → length j.scripts + n ≤ 16 → any_below own g (length j.scripts + n) ≡ any_below own g (length j.scripts)
  none_more zero low = ap (any_below own g) (omega arith)
  none_more (suc n) low =
      ap (any_below own g) (next n)
      ∙ ap (λ b. b || any_below own g (length j.scripts + n)) (s.none (length j.scripts + n) g (omega arith) (omega (arith, low)))
      ∙ none_more n (omega (arith, low))
    where
      next : (k : ℕ) → length j.scripts + suc k ≡ suc (length j.scripts + k)
      next k = omega arith

  pub held_same : length j.scripts ≤ 16 → is_held_by own g ≡ is_held j past g
  held_same few =
      any_is_below own g ∙ ap (any_below own g) s.holders ∙ ap (λ b. b || any_below own g 16) (s.builder g)
      ∙ ap (λ b. is_among (listed (builder_holds j past)) g || b)
      (ap (any_below own g) (sym (sum_is few)) ∙ none_more (16 - length j.scripts) (omega (arith, few)) ∙ few_below (length j.scripts)
      (omega arith))
    where
      sum_is : length j.scripts ≤ 16 → length j.scripts + (16 - length j.scripts) ≡ 16
      sum_is h = omega (arith, h)

-- ---- one entry more

-- an actor's holds end, or become others; those of all others stay
pub record SetsHolds (old new : List (List Page)) (holder : ℕ) : Type 0 where
  pub holders : length new ≡ length old
  pub others : (p : ℕ) → p ≢ holder → own_of new p ≡ own_of old p

-- by an entry of the reclaimer nobody's change
pub holds_stay : (j : JobView) (own : List (List Page)) (past : List Entry) (ev : Event) → ShowsHolds j own past
    → ShowsHolds j own (entry_of actors.Reclaimer ev ∷ past)
holds_stay j own past ev s = record { holders = s.holders; cpus = s.cpus; builder = s.builder; none = s.none }

-- by an entry of a processor only its own
pub holds_of_cpu : (j : JobView) (old new : List (List Page)) (past : List Entry) (c : Cpu) (ev : Event) → c.0 < length j.scripts
    → length j.scripts ≤ 16 → SetsHolds old new c.0
    → ((g : Page) → holds_page (own_of new c.0) g ≡ is_among (holds j (entry_of (actors.Cpu c) ev ∷ past) c.0) g)
    → ShowsHolds j old past → ShowsHolds j new (entry_of (actors.Cpu c) ev ∷ past)
holds_of_cpu j old new past c ev low few sets own s = record {
  holders = sets.holders ∙ s.holders;
  cpus = λ p g h. by_cpu p g h (c.0 == p) refl;
  builder = λ g. ap (λ pages. holds_page pages g) (sets.others 16 (λ k. absurd (omega (arith, low, few, k)))) ∙ s.builder g;
  none = λ p g high h. ap (λ pages. holds_page pages g) (sets.others p (λ k. absurd (omega (arith, low, high, k)))) ∙ s.none p g high h;
}
  where
    by_cpu : (p : ℕ) (g : Page) → p < length j.scripts → (b : Bool) → (c.0 == p) ≡ b
        → holds_page (own_of new p) g ≡ is_among (holds j (entry_of (actors.Cpu c) ev ∷ past) p) g
    by_cpu p g h true is =
        subst (λ q. holds_page (own_of new q) g ≡ is_among (holds j (entry_of (actors.Cpu c) ev ∷ past) q) g) (eqb-true c.0 p is) (own g)
    by_cpu p g h false is =
        ap (λ pages. holds_page pages g) (sets.others p (λ k. eqb-false c.0 p is (sym k))) ∙ s.cpus p g h ∙ rw is refl

-- by an entry of the builder only its own
pub holds_of_builder : (j : JobView) (old new : List (List Page)) (past : List Entry) (ev : Event) → length j.scripts ≤ 16
    → SetsHolds old new 16
    → ((g : Page) → holds_page (own_of new 16) g ≡ is_among (listed (builder_holds j (entry_of actors.Builder ev ∷ past))) g)
    → ShowsHolds j old past → ShowsHolds j new (entry_of actors.Builder ev ∷ past)
holds_of_builder j old new past ev few sets own s = record {
  holders = sets.holders ∙ s.holders;
  cpus = λ p g h. ap (λ pages. holds_page pages g) (sets.others p (λ k. absurd (omega (arith, h, few, k)))) ∙ s.cpus p g h;
  builder = own;
  none = λ p g high h. ap (λ pages. holds_page pages g) (sets.others p (λ k. absurd (omega (arith, h, k)))) ∙ s.none p g high h;
}

-- an actor's pages, set
pub sets_holds : (own : List (List Page)) (holder : ℕ) (pages : List Page) → SetsHolds own (slice_set own holder pages) holder
sets_holds own holder pages = record {
  holders = length-set own holder pages;
  others = λ p other. get_or-set_other own holder p pages [] other;
}

-- what an actor holds with one page more
pub holds_joined : (pages : List Page) (page g : Page) → holds_page (joined pages page) g ≡ (holds_page pages g || same_page g page)
holds_joined pages page g = by_test (holds_page pages page) refl
  where
    append : (xs : List Page) → holds_page (xs ++ page ∷ []) g ≡ (holds_page xs g || same_page g page)
    append [] = or-false (same_page g page)
    append (x ∷ xs) = ap (λ b. same_page g x || b) (append xs) ∙ or_apart (same_page g x) (holds_page xs g) (same_page g page)
      where
        or_apart : (a b c : Bool) → (a || (b || c)) ≡ ((a || b) || c)
        or_apart true b c = refl
        or_apart false b c = refl

    found : (b : Bool) → same_page g page ≡ b → holds_page pages page ≡ true → holds_page pages g ≡ (holds_page pages g || b)
    found true is h = ap (holds_page pages) (same_pages g page is) ∙ h ∙ sym (or_true (holds_page pages g))
      where
        or_true : (a : Bool) → (a || true) ≡ true
        or_true true = refl
        or_true false = refl
    found false is h = sym (or-false (holds_page pages g))

    by_test : (b : Bool) → holds_page pages page ≡ b
        → holds_page (if b then pages else pages ++ page ∷ []) g ≡ (holds_page pages g || same_page g page)
    by_test true is = found (same_page g page) refl is
    by_test false is = append pages

-- the holds before a job's first entry
pub holds_begin : (j : JobView) → builder_holds j [] ≡ None → ShowsHolds j (replicate 17 []) []
holds_begin j none = record {
  holders = refl;
  cpus = λ p g h. ap (λ pages. holds_page pages g) (nothing p);
  builder = λ g. sym (ap (λ o. is_among (listed o) g) none);
  none = λ p g high h. ap (λ pages. holds_page pages g) (nothing p);
}
  where
    nothing : (p : ℕ) → own_of (replicate 17 []) p ≡ []
    nothing p = all_same 17 [] p
