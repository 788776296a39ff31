-- What a map has at a key after one of its places was written, seen by a view of its places.
use Rattle.std.proofs.Common.{◌≡◌, Bool, true, false, cond, if◌then◌else◌, Option, Some, None, is_some, refl, sym, ap, ◌∙◌, subst}
use Rattle.std.proofs.Common.{ℕ, ◌+◌, arith}
use Rattle.std.proofs.lemmas.Bool.{false≢true}
use Rattle.std.specs.Global.{Vec}
use Rattle.trace_spans.specs.inner.Listed.{HasSpare}

-- ---- what is seen

written_if : {V X : Type 0} (b : Bool) (view : Option V → X) (change : X → X) (was : Option V) (v w : V) → (b ≡ true → was ≡ Some v)
    → view (Some w) ≡ change (view (Some v)) → view (cond b (Some w) was) ≡ (if b then change (view was) else view was)
written_if true view change was v w at is = is ∙ ap (λ o. change (view o)) (sym (at refl))
written_if false view change was v w at is = refl

-- where a place was changed, the other places are as they were
pub written : {K V X : Type 0} (same : K → K → Bool) (view : Option V → X) (change : X → X) (key k : K) (was is : K → Option V) (v w : V)
    → ((a b : K) → same a b ≡ true → a ≡ b) → was key ≡ Some v → view (Some w) ≡ change (view (Some v))
    → ((k : K) → is k ≡ cond (same key k) (Some w) (was k))
    → view (is k) ≡ (if same key k then change (view (was k)) else view (was k))
written same view change key k was is v w tells has changes reads =
    ap view (reads k)
    ∙ written_if (same key k) view change (was k) v w (λ h. ap was (sym (tells key k h)) ∙ has) changes

same_if : {X : Type 0} (b : Bool) (x : X) → (if b then x else x) ≡ x
same_if true x = refl
same_if false x = refl

-- where a place was written with what is seen the same, all is seen the same
pub rewritten : {K V X : Type 0} (same : K → K → Bool) (view : Option V → X) (key k : K) (was is : K → Option V) (v w : V)
    → ((a b : K) → same a b ≡ true → a ≡ b) → was key ≡ Some v → view (Some w) ≡ view (Some v)
    → ((k : K) → is k ≡ cond (same key k) (Some w) (was k)) → view (is k) ≡ view (was k)
rewritten same view key k was is v w tells has keeps reads =
    written same view (λ x. x) key k was is v w tells has keeps reads ∙ same_if (same key k) (view (was k))

begun_if : {V X : Type 0} (b : Bool) (view : Option V → X) (was : Option V) (w : V) → (b ≡ true → is_some was ≡ false)
    → view (Some w) ≡ view None → view (cond b (Some w) was) ≡ view was
begun_if true view None w none empty = empty
begun_if true view (Some v) w none empty = absurd (false≢true (sym (none refl)))
begun_if false view was w none empty = refl

-- where a new place is seen as none is, all is seen the same
pub begun : {K V X : Type 0} (same : K → K → Bool) (view : Option V → X) (key k : K) (was is : K → Option V) (w : V)
    → ((a b : K) → same a b ≡ true → a ≡ b) → is_some (was key) ≡ false → view (Some w) ≡ view None
    → ((k : K) → is k ≡ cond (same key k) (Some w) (was k)) → view (is k) ≡ view (was k)
begun same view key k was is w tells none empty reads =
    ap view (reads k)
    ∙ begun_if (same key k) view (was k) w (λ h. ap (λ q. is_some (was q)) (sym (tells key k h)) ∙ none) empty

-- ---- what holds

holds_if : {V : Type 0} (b : Bool) (P Q : Option V → Type 0) (was : Option V) (v w : V) → (b ≡ true → was ≡ Some v)
    → (P (Some v) → Q (Some w)) → ((o : Option V) → P o → Q o) → P was → Q (cond b (Some w) was)
holds_if true P Q was v w at here there h = here (subst P (at refl) h)
holds_if false P Q was v w at here there h = there was h

-- where a place was written, what holds of each place before it tells what holds of it then
pub holds_written : {K V : Type 0} (same : K → K → Bool) (P Q : Option V → Type 0) (key k : K) (was is : K → Option V) (v w : V)
    → ((a b : K) → same a b ≡ true → a ≡ b) → was key ≡ Some v → (P (Some v) → Q (Some w)) → ((o : Option V) → P o → Q o)
    → ((k : K) → is k ≡ cond (same key k) (Some w) (was k)) → P (was k) → Q (is k)
holds_written same P Q key k was is v w tells has here there reads h =
    subst Q (sym (reads k)) (holds_if (same key k) P Q (was k) v w (λ e. ap was (sym (tells key k e)) ∙ has) here there h)

begun_holds_if : {V : Type 0} (b : Bool) (P : Option V → Type 0) (was : Option V) (w : V) → (b ≡ true → is_some was ≡ false)
    → (P None → ⊥) → P was → P (cond b (Some w) was)
begun_holds_if true P None w none never h = absurd (never h)
begun_holds_if true P (Some v) w none never h = absurd (false≢true (sym (none refl)))
begun_holds_if false P was w none never h = h

-- where there is a new place, what never holds of none holds where it held
pub holds_begun : {K V : Type 0} (same : K → K → Bool) (P : Option V → Type 0) (key k : K) (was is : K → Option V) (w : V)
    → ((a b : K) → same a b ≡ true → a ≡ b) → is_some (was key) ≡ false → (P None → ⊥)
    → ((k : K) → is k ≡ cond (same key k) (Some w) (was k)) → P (was k) → P (is k)
holds_begun same P key k was is w tells none never reads h =
    subst P (sym (reads k))
    (begun_holds_if (same key k) P (was k) w (λ e. ap (λ q. is_some (was q)) (sym (tells key k e)) ∙ none) never h)

-- ---- room

-- room for one more is room
pub spare_less : {T : Type 0} (list : Option (Vec T)) (k : ℕ) → HasSpare list (k + 1) → HasSpare list k
spare_less None k h = h
spare_less (Some v) k h = omega (arith, h)
