-- The step that is chosen from the held pages by their next uses.
use Rattle.std.proofs.Common.{◌≡◌, ℕ, ◌+◌, ◌<◌, ◌≤◌, Bool, true, false, not, ◌&&◌, ◌||◌, List, [], ◌∷◌}
use Rattle.std.proofs.Common.{◌++◌}
use Rattle.std.proofs.Common.{length, Option, Some, None, is_some, IfNone, IsSome, arith, refl, sym, ap, subst, ◌∙◌}
use Rattle.std.specs.Ordering.{nat_cmp, is_lt, MatchOrdering}
use Rattle.std.specs.declared.cmp.Ordering.{Ordering}
use Rattle.std.specs.declared.cmp.Ordering.TheVariants.{Less, Equal, Greater}
use Rattle.std.specs.Map.{lookup}
use Rattle.std.specs.BTreeMap.{is_at}
use Rattle.std.proofs.lemmas.Cmp.{ranked}
use Rattle.std.proofs.lemmas.Bool.{false≢true, false_from_ne_true, and_right}
use Rattle.std.proofs.lemmas.List.{length-append, append-nil}
use Rattle.sgx_types.specs.declared.names.Page.{Page}
use Rattle.sgx_types.specs.Pages.{same_page}
use Rattle.sgx_types.proofs.Pages.{same_pages, same_page-refl}
use Rattle.least_reloads.specs.Plans.{StepView, has, kept, held_behind}
use Rattle.least_reloads.specs.inner.Farthest.{stays, comes, swaps, IsUsedLast, Hit, Fill, Swap, Holds, next_use, Keeps, Chosen}
use Rattle.least_reloads.proofs.Soon.{without, length-without}
use Rattle.least_reloads.proofs.Held.{has-append}
use Rattle.least_reloads.proofs.FarthestLaws.{all_kept}
use Rattle.least_reloads.proofs.KeepLaws.{use_now, use_later, used_by, by_use, Changes, keeps_without, in_without, not_same}

used_now : (x : Page) (w : List Page) (p : Page) → next_use (x ∷ w) p ≡ 0 → p ≡ x
used_now x w p now = by_test (same_page p x) refl
  where
    by_test : (b : Bool) → same_page p x ≡ b → p ≡ x
    by_test true same = same_pages p x same
    by_test false other = absurd (omega (arith, now, use_later x w p other))

back_in : (s h : Bool) → (s ≡ true → h ≡ true) → ((not (s || false) && h) || (s || false)) ≡ h
back_in true h there = sym (there refl)
back_in false true there = refl
back_in false false there = refl

-- the page has a key at this access: it is held
pub chosen_hit : (frames i : ℕ) (page : Page) (coming pages : List Page) (look look' : ℕ → Option Page) (count count' : ℕ) (q : Page)
    → Holds frames pages → Keeps i (page ∷ coming) pages look count → look i ≡ Some q → Changes look i None look' → count' + 1 ≡ count
    → Chosen frames i page coming pages stays look' count'
chosen_hit frames i page coming pages look look' count count' q holds keeps is changes less =
    let q_is : q ≡ page = used_now page coming q (omega (arith, keeps.used i q is)) in
    let is_page : look i ≡ Some page = is ∙ ap (λ p. Some p) q_is in
    let held = keeps.holds i page is_page in
    let stay : held_behind pages stays ≡ pages = append-nil (kept pages stays) ∙ all_kept pages [] in
    record {
      best = Hit held;
      others = without page pages;
      keeps = keeps_without i (page ∷ coming) pages look look' count count' i page keeps holds.distinct is_page changes less;
      absent = in_without page pages page ∙ ap (λ b. not (b || false) && has pages page) (same_page-refl page);
      same = λ p.
          has-append (without page pages) (page ∷ []) p
          ∙ ap (λ b. b || (same_page p page || false)) (in_without page pages p)
          ∙ back_in (same_page p page) (has pages p) (λ s. ap (has pages) (same_pages p page s) ∙ held)
          ∙ ap (λ l. has l p) (sym stay);
      size = ap length stay ∙ sym (length-without page pages holds.distinct held);
    }

-- it has none: it is not held
missed : (i : ℕ) (page : Page) (coming pages : List Page) (look : ℕ → Option Page) (count : ℕ) → Keeps i (page ∷ coming) pages look count
    → look i ≡ None → has pages page ≡ false
missed i page coming pages look count keeps none = false_from_ne_true (has pages page) (λ held.
    let j = keeps.found page held in
    let here : i ≡ j.0 = omega (arith, keeps.used j.0 page j.1, use_now page coming page (same_page-refl page)) in
    let there = sym none ∙ ap look here ∙ j.1 in cc there)

pub chosen_fill : (frames i : ℕ) (page : Page) (coming pages : List Page) (look : ℕ → Option Page) (count : ℕ)
    → Keeps i (page ∷ coming) pages look count → look i ≡ None → count < frames
    → Chosen frames i page coming pages (comes page) look count
chosen_fill frames i page coming pages look count keeps none room =
    let absent = missed i page coming pages look count keeps none in
    let come : held_behind pages (comes page) ≡ pages ++ page ∷ [] = ap (λ l. l ++ page ∷ []) (all_kept pages (page ∷ [])) in
    record {
      best = Fill absent (omega (arith, keeps.size, room));
      others = pages;
      keeps = keeps;
      absent = absent;
      same = λ p. ap (λ l. has l p) (sym come);
      size = ap length come ∙ length-append pages (page ∷ []);
    }

-- the page at the last key is used last
last_goes : (i : ℕ) (page : Page) (coming pages : List Page) (look : ℕ → Option Page) (count j : ℕ) (old : Page)
    → Keeps i (page ∷ coming) pages look count → has pages page ≡ false → look j ≡ Some old
    → ((k : ℕ) (q : Page) → look k ≡ Some q → k ≤ j) → IsUsedLast pages coming old
last_goes i page coming pages look count j old keeps absent is last = λ t used p held.
    let u = used_by t coming old used in
    let k = keeps.found p held in
    let of_old = use_later page coming old (not_same pages page old absent (keeps.holds j old is)) in
    let of_p = use_later page coming p (not_same pages page p absent held) in
    let sooner : next_use coming p ≤ next_use coming old =
    omega (arith, keeps.used j old is, keeps.used k.0 p k.1, last k.0 p k.1, of_old, of_p) in
    by_use t coming p (omega (arith, sooner, u.soon)) (omega (arith, sooner, u.ever))

pub chosen_swap : (frames i : ℕ) (page : Page) (coming pages : List Page) (look look' : ℕ → Option Page) (count count' j : ℕ) (old : Page)
    → Holds frames pages → Keeps i (page ∷ coming) pages look count → look i ≡ None → frames ≤ count
    → look j ≡ Some old → ((k : ℕ) (q : Page) → look k ≡ Some q → k ≤ j) → Changes look j None look' → count' + 1 ≡ count
    → Chosen frames i page coming pages (swaps old page) look' count'
chosen_swap frames i page coming pages look look' count count' j old holds keeps none full is last changes less =
    let absent = missed i page coming pages look count keeps none in
    let held = keeps.holds j old is in
    record {
      best = Swap old absent (omega (arith, keeps.size, full)) held (last_goes i page coming pages look count j old keeps absent is last);
      others = without old pages;
      keeps = keeps_without i (page ∷ coming) pages look look' count count' j old keeps holds.distinct is changes less;
      absent = in_without old pages page ∙ and_right (not (same_page page old || false)) (has pages page) absent;
      same = λ p. refl;
      size = length-append (without old pages) (page ∷ []);
    }

-- ---- what the calls of a map say
abbrev pub step_of : List Page → List Page → StepView
step_of out load = record { out = out; load = load }

pub same_step : (out out' load load' : List Page) → out ≡ out' → load ≡ load' → step_of out load ≡ step_of out' load'
same_step out out' load load' o l = ap (λ out. step_of out load) o ∙ ap (step_of out') l

pub some_of : (o : Option Page) → is_some o ≡ true → (q : Page) × (o ≡ Some q)
some_of None is = absurd (false≢true is)
some_of (Some q) is = (q, refl)

pub none_of : (o : Option Page) → is_some o ≡ false → o ≡ None
none_of None is = refl
none_of (Some q) is = absurd (false≢true (sym is))

pub le_of : (j k : ℕ) → is_lt (nat_cmp j k) ≡ false → k ≤ j
le_of j k h = by_order (nat_cmp j k) (ranked j k (nat_cmp j k) refl) h
  where
    by_order : (r : Ordering) → MatchOrdering r (j < k) (j ≡ k) (k < j) → is_lt r ≡ false → k ≤ j
    by_order Less m h = absurd (false≢true (sym h))
    by_order Equal m h = omega arith
    by_order Greater m h = omega arith

pub unchanged_of : (o : Option Page) (P : Type 0) → is_some o ≡ false → IfNone o P → P
unchanged_of None P is h = h
unchanged_of (Some q) P is h = absurd (false≢true (sym is))

-- what a map has at each key
abbrev pub at : List (ℕ × Page) → ℕ → Option Page
at entries k = lookup (is_at (nat_cmp k)) entries

-- a map with the same entries, and no key at this access
pub record Missed (i : ℕ) (coming pages : List Page) (entries : List (ℕ × Page)) : Type 0 where
  pub keeps : Keeps i coming pages (at entries) (length entries)
  pub none : at entries i ≡ None

pub missed_as : (i : ℕ) (coming pages : List Page) (entries entries' : List (ℕ × Page))
    → Keeps i coming pages (at entries) (length entries) → at entries i ≡ None → entries' ≡ entries → Missed i coming pages entries'
missed_as i coming pages entries entries' keeps none same =
    let M : List (ℕ × Page) → Type 0 = Missed i coming pages in
    let here : Missed i coming pages entries = record { keeps = keeps; none = none } in
    subst M (sym same) here

pub is_there : (o : Option Page) (q : Page) → o ≡ Some q → IsSome o
is_there None q h = cc h
is_there (Some p) q h = refl
