-- The held pages by their next uses: what goes out of such a map and comes into it.
use Rattle.std.proofs.Common.{◌≡◌, ℕ, zero, suc, ◌+◌, ◌<◌, ◌≤◌, Bool, true, false, not, ◌&&◌, ◌||◌, cond}
use Rattle.std.proofs.Common.{◌⊎◌, inl, inr}
use Rattle.std.proofs.Common.{List, [], ◌∷◌, ◌++◌, length, take, Option, Some, None, is_some, arith, refl, sym, ap, ◌∙◌}
use Rattle.std.proofs.Common.{⊎_elim}
use Rattle.std.specs.List.{IsDistinct}
use Rattle.std.specs.Ordering.{nat_cmp, is_eq, MatchOrdering}
use Rattle.std.specs.declared.cmp.Ordering.{Ordering}
use Rattle.std.specs.declared.cmp.Ordering.TheVariants.{Less, Equal, Greater}
use Rattle.std.specs.BTreeMap.{is_at}
use Rattle.std.proofs.lemmas.Bool.{false≢true, or_cases, or_parts, and_parts, not-true}
use Rattle.std.proofs.lemmas.Bool.{false_from_ne_true, cases_eq, le-ltb, eq-eqb, and_from, or_left, or_right}
use Rattle.std.proofs.lemmas.Cmp.{ranked}
use Rattle.std.proofs.lemmas.List.{length-append}
use Rattle.sgx_types.specs.declared.names.Page.{Page}
use Rattle.sgx_types.specs.Pages.{same_page}
use Rattle.sgx_types.proofs.Pages.{same_pages, same_page-refl}
use Rattle.least_reloads.specs.Plans.{has}
use Rattle.least_reloads.specs.inner.Farthest.{next_use, IsUse, Keeps}
use Rattle.least_reloads.proofs.Soon.{without, length-without}
use Rattle.least_reloads.proofs.Held.{has-filter, has-append, has_one}

-- ---- next uses
pub use_now : (x : Page) (w : List Page) (p : Page) → same_page p x ≡ true → next_use (x ∷ w) p ≡ 0
use_now x w p same = ap (λ b. cond b 0 (next_use w p + 1)) same

pub use_later : (x : Page) (w : List Page) (p : Page) → same_page p x ≡ false → next_use (x ∷ w) p ≡ next_use w p + 1
use_later x w p other = ap (λ b. cond b 0 (next_use w p + 1)) other

pub next_use-le : (w : List Page) (p : Page) → next_use w p ≤ length w
next_use-le [] p = omega arith
next_use-le (x ∷ w) p = by_test (same_page p x) (next_use-le w p)
  where
    by_test : (b : Bool) → next_use w p ≤ length w → cond b 0 (next_use w p + 1) ≤ length (x ∷ w)
    by_test true h = omega arith
    by_test false h = omega (arith, h)

-- a page is among the first t accesses exactly where its next use is
pub record Used (t : ℕ) (w : List Page) (p : Page) : Type 0 where
  pub soon : next_use w p < t
  pub ever : next_use w p < length w

pub used_by : (t : ℕ) (w : List Page) (p : Page) → has (take t w) p ≡ true → Used t w p
used_by zero w p h = absurd (false≢true (none w h))
  where
    none : (w : List Page) → has (take 0 w) p ≡ true → false ≡ true
    none [] h = h
    none (x ∷ w) h = h
used_by (suc t) [] p h = absurd (false≢true h)
used_by (suc t) (x ∷ w) p h = by_test (same_page p x) refl h (used_by t w p)
  where
    by_test : (b : Bool) → same_page p x ≡ b → (b || has (take t w) p) ≡ true → (has (take t w) p ≡ true → Used t w p)
        → Used (suc t) (x ∷ w) p
    by_test true same h rest = record { soon = omega (arith, use_now x w p same); ever = omega (arith, use_now x w p same) }
    by_test false other h rest = let r = rest h in
        record { soon = omega (arith, use_later x w p other, r.soon); ever = omega (arith, use_later x w p other, r.ever) }

pub by_use : (t : ℕ) (w : List Page) (p : Page) → next_use w p < t → next_use w p < length w → has (take t w) p ≡ true
by_use t [] p soon ever = absurd (omega (arith, ever))
by_use zero (x ∷ w) p soon ever = absurd (omega (arith, soon))
by_use (suc t) (x ∷ w) p soon ever = by_test (same_page p x) refl (by_use t w p)
  where
    by_test : (b : Bool) → same_page p x ≡ b → (next_use w p < t → next_use w p < length w → has (take t w) p ≡ true)
        → (b || has (take t w) p) ≡ true
    by_test true same rest = refl
    by_test false other rest = rest (omega (arith, use_later x w p other, soon)) (omega (arith, use_later x w p other, ever))

-- two pages are not used next at one place
pub one_use : (w : List Page) (p q : Page) → next_use w p ≡ next_use w q → next_use w p < length w → p ≡ q
one_use [] p q e ever = absurd (omega (arith, ever))
one_use (x ∷ w) p q e ever = by_tests (same_page p x) (same_page q x) refl refl (one_use w p q)
  where
    by_tests : (b c : Bool) → same_page p x ≡ b → same_page q x ≡ c → (next_use w p ≡ next_use w q → next_use w p < length w → p ≡ q)
        → p ≡ q
    by_tests true true pb qc rest = same_pages p x pb ∙ sym (same_pages q x qc)
    by_tests true false pb qc rest = absurd (omega (arith, e, use_now x w p pb, use_later x w q qc))
    by_tests false true pb qc rest = absurd (omega (arith, e, use_later x w p pb, use_now x w q qc))
    by_tests false false pb qc rest =
        rest (omega (arith, e, use_later x w p pb, use_later x w q qc)) (omega (arith, ever, use_later x w p pb))

-- ---- keys
is_at_here : (j : ℕ) → is_at (nat_cmp j) j ≡ true
is_at_here j = rw (le-ltb j j (omega arith), eq-eqb j j refl) refl

is_at_only : (j k : ℕ) → is_at (nat_cmp j) k ≡ true → j ≡ k
is_at_only j k h = by_order (nat_cmp j k) (ranked j k (nat_cmp j k) refl) h
  where
    by_order : (r : Ordering) → MatchOrdering r (j < k) (j ≡ k) (k < j) → is_eq r ≡ true → j ≡ k
    by_order Less m h = absurd (false≢true h)
    by_order Equal m h = m
    by_order Greater m h = absurd (false≢true h)

-- the map has w at key j, and is as before elsewhere
abbrev pub Changes : (ℕ → Option Page) → ℕ → Option Page → (ℕ → Option Page) → Type 0
Changes look j w look' = (k : ℕ) → look' k ≡ cond (is_at (nat_cmp j) k) w (look k)

changed_here : (look look' : ℕ → Option Page) (j : ℕ) (w : Option Page) → Changes look j w look' → look' j ≡ w
changed_here look look' j w changes = changes j ∙ ap (λ b. cond b w (look j)) (is_at_here j)

changed_other : (look look' : ℕ → Option Page) (j k : ℕ) (w : Option Page) → Changes look j w look' → (j ≡ k → ⊥) → look' k ≡ look k
changed_other look look' j k w changes other = changes k
    ∙ ap (λ b. cond b w (look k)) (false_from_ne_true (is_at (nat_cmp j) k) (λ h. other (is_at_only j k h)))

-- what a map has after it lost a key
lost : (look look' : ℕ → Option Page) (j k : ℕ) (q : Page) → Changes look j None look' → look' k ≡ Some q → (j ≡ k → ⊥) × (look k ≡ Some q)
lost look look' j k q changes h =
    let other : j ≡ k → ⊥ = λ e. let none = sym (ap look' e) ∙ changed_here look look' j None changes in cc (h, none) in
    (other, sym (changed_other look look' j k None changes other) ∙ h)

-- what it has after it gained one
gained : (look look' : ℕ → Option Page) (j k : ℕ) (x q : Page) → Changes look j (Some x) look' → look' k ≡ Some q
    → ((j ≡ k) × (x ≡ q)) ⊎ ((j ≡ k → ⊥) × (look k ≡ Some q))
gained look look' j k x q changes h = ⊎_elim
    (λ e. let here = sym (changed_here look look' j (Some x) changes) ∙ ap look' e ∙ h in let same : x ≡ q = cc here in inl (e, same))
    (λ other. inr (other, sym (changed_other look look' j k (Some x) changes other) ∙ h))
    (cases_eq j k)

pub not_same : (pages : List Page) (x q : Page) → has pages x ≡ false → has pages q ≡ true → same_page q x ≡ false
not_same pages x q absent held =
    false_from_ne_true (same_page q x) (λ s. false≢true (sym absent ∙ ap (has pages) (sym (same_pages q x s)) ∙ held))

pub in_without : (y : Page) (pages : List Page) (q : Page) → has (without y pages) q ≡ (not (same_page q y || false) && has pages q)
in_without y pages q = has-filter (λ p. not (has (y ∷ []) p)) pages q

-- a held page leaves the map
pub keeps_without : (i : ℕ) (coming pages : List Page) (look look' : ℕ → Option Page) (count count' j : ℕ) (y : Page)
    → Keeps i coming pages look count → IsDistinct same_page pages → look j ≡ Some y → Changes look j None look' → count' + 1 ≡ count
    → Keeps i coming (without y pages) look' count'
keeps_without i coming pages look look' count count' j y keeps distinct is changes less = record {
  holds = λ k q h.
      let was = lost look look' j k q changes h in
      let other : same_page q y ≡ false = false_from_ne_true (same_page q y)
      (λ s. was.0 (keeps.once j k y is (was.1 ∙ ap (λ p. Some p) (same_pages q y s)))) in
      in_without y pages q
      ∙ and_from (not (same_page q y || false)) (has pages q) (ap (λ b. not (b || false)) other) (keeps.holds k q was.1);
  used = λ k q h. keeps.used k q (lost look look' j k q changes h).1;
  below = λ k q h. keeps.below k q (lost look look' j k q changes h).1;
  found = λ q h.
      let both = and_parts (not (same_page q y || false)) (has pages q) (sym (in_without y pages q) ∙ h) in
      let other = (or_parts (same_page q y) false (not-true (same_page q y || false) both.0)).0 in
      let k = keeps.found q both.1 in
      let apart : j ≡ k.0 → ⊥ = λ e. let at_j = sym is ∙ ap look e ∙ k.1 in let same : y ≡ q = cc at_j in
      false≢true (sym other ∙ ap (λ p. same_page p y) (sym same) ∙ same_page-refl y) in
      (k.0, changed_other look look' j k.0 None changes apart ∙ k.1);
  once = λ k l q h h'. keeps.once k l q (lost look look' j k q changes h).1 (lost look look' j l q changes h').1;
  size = omega (arith, less, keeps.size, length-without y pages distinct (keeps.holds j y is));
}

-- the accessed page, which is not in the map, has no key there
fresh : (i : ℕ) (page : Page) (coming pages : List Page) (look : ℕ → Option Page) (count u : ℕ) → Keeps i (page ∷ coming) pages look count
    → has pages page ≡ false → IsUse i page coming u
    → (o : Option Page) → look u ≡ o → o ≡ None
fresh i page coming pages look count u keeps absent use_is None is = refl
fresh i page coming pages look count u keeps absent use_is (Some q) is =
    let held = keeps.holds u q is in
    let later = use_later page coming q (not_same pages page q absent held) in
    absurd (⊎_elim
    (λ low.
    let same : next_use coming q ≡ next_use coming page = omega (arith, use_is.is, keeps.used u q is, later, low) in
    let ever : next_use coming q < length coming = omega (arith, keeps.used u q is, later, low) in
    false≢true (sym absent ∙ ap (has pages) (sym (one_use coming q page same ever)) ∙ held))
    (λ past. omega (arith, past, keeps.below u q is))
    use_is.new)

-- the access is done, and its page comes into the map with its next use
pub keeps_next : (i : ℕ) (page : Page) (coming pages : List Page) (look look' : ℕ → Option Page) (count count' u : ℕ)
    → Keeps i (page ∷ coming) pages look count → has pages page ≡ false → IsUse i page coming u → Changes look u (Some page) look'
    → count' ≡ count + cond (is_some (look u)) 0 1
    → Keeps (i + 1) coming (pages ++ page ∷ []) look' count'
keeps_next i page coming pages look look' count count' u keeps absent use_is changes more = record {
  holds = λ k q h. ⊎_elim
      (λ here. has-append pages (page ∷ []) q
      ∙ or_right (has pages q) (has (page ∷ []) q)
      (or_left (same_page q page) false (ap (λ p. same_page p page) (sym here.1) ∙ same_page-refl page)))
      (λ there. has-append pages (page ∷ []) q ∙ or_left (has pages q) (has (page ∷ []) q) (keeps.holds k q there.1))
      (gained look look' u k page q changes h);
  used = λ k q h. ⊎_elim
      (λ here. omega (arith, use_is.is, here.0, ap (next_use coming) here.1))
      (λ there. omega (arith, keeps.used k q there.1, use_later page coming q (not_same pages page q absent (keeps.holds k q there.1))))
      (gained look look' u k page q changes h);
  below = λ k q h. ⊎_elim
      (λ here. let e : u ≡ k = here.0 in ⊎_elim (λ low. omega (arith, e, low)) (λ past. omega (arith, e, past)) use_is.new)
      (λ there. omega (arith, keeps.below k q there.1))
      (gained look look' u k page q changes h);
  found = λ q h. ⊎_elim
      (λ was.
      let k = keeps.found q was in
      let apart : u ≡ k.0 → ⊥ = λ e. let at_u = sym none ∙ ap look e ∙ k.1 in cc at_u in
      (k.0, changed_other look look' u k.0 (Some page) changes apart ∙ k.1))
      (λ is. (u, changed_here look look' u (Some page) changes ∙ ap (λ p. Some p) (has_one page q is)))
      (or_cases (has pages q) (has (page ∷ []) q) (sym (has-append pages (page ∷ []) q) ∙ h));
  once = λ k l q h h'. ⊎_elim
      (λ here. ⊎_elim
      (λ here'. sym here.0 ∙ here'.0)
      (λ there'. absurd (false≢true (sym absent ∙ ap (has pages) here.1 ∙ keeps.holds l q there'.1)))
      (gained look look' u l page q changes h'))
      (λ there. ⊎_elim
      (λ here'. absurd (false≢true (sym absent ∙ ap (has pages) here'.1 ∙ keeps.holds k q there.1)))
      (λ there'. keeps.once k l q there.1 there'.1)
      (gained look look' u l page q changes h'))
      (gained look look' u k page q changes h);
  size = omega (arith, more, ap {B = ℕ} (λ o. cond (is_some o) 0 1) none, keeps.size, length-append pages (page ∷ []));
}
  where
    none : look u ≡ None
    none = fresh i page coming pages look count u keeps absent use_is (look u) refl

-- the same pages in another order
pub keeps_like : (i : ℕ) (coming pages pages' : List Page) (look : ℕ → Option Page) (count : ℕ) → Keeps i coming pages look count
    → ((p : Page) → has pages p ≡ has pages' p) → length pages' ≡ length pages
    → Keeps i coming pages' look count
keeps_like i coming pages pages' look count keeps same size = record {
  holds = λ j p h. sym (same p) ∙ keeps.holds j p h;
  used = keeps.used;
  below = keeps.below;
  found = λ p h. keeps.found p (same p ∙ h);
  once = keeps.once;
  size = keeps.size ∙ sym size;
}
