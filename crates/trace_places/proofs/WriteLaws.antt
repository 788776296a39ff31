-- What a map of lists has after the list at one of its keys was written.
use Rattle.std.proofs.Common.{◌≡◌, ℕ, Bool, true, false, cond, if◌then◌else◌, List, [], Option, Some, None, is_some, refl, sym, ap, ◌∙◌}
use Rattle.std.proofs.lemmas.Bool.{false≢true}
use Rattle.std.specs.Global.{Vec}
use Rattle.trace_places.specs.declared.change.Tenant.{Tenant}
use Rattle.trace_places.specs.declared.frame_lists.TenantKey.{TenantKey}
use Rattle.trace_places.specs.Places.{same_tenant}
use Rattle.trace_places.specs.inner.Frames.{same_tenant_key, tenant_key}
use Rattle.trace_places.proofs.TenantLaws.{same_tenants, key_same}
use Rattle.trace_spans.specs.inner.Listed.{items_of}

written_if : (b : Bool) (f : List ℕ → List ℕ) (was : Option (Vec ℕ)) (v w : Vec ℕ) → (b ≡ true → was ≡ Some v) → w.items ≡ f v.items
    → items_of (cond b (Some w) was) ≡ (if b then f (items_of was) else items_of was)
written_if true f was v w here is = is ∙ ap (λ o. f (items_of o)) (sym (here refl))
written_if false f was v w here is = refl

-- where the list of a tenant was written
pub written : (key : TenantKey) (s t : Tenant) (f : List ℕ → List ℕ) (was is : TenantKey → Option (Vec ℕ)) (v w : Vec ℕ)
    → key ≡ tenant_key s → was key ≡ Some v → w.items ≡ f v.items
    → ((q : TenantKey) → is q ≡ cond (same_tenant_key key q) (Some w) (was q))
    → items_of (is (tenant_key t)) ≡ (if same_tenant s t then f (items_of (was (tenant_key t))) else items_of (was (tenant_key t)))
written key s t f was is v w at here writes reads =
    let k = tenant_key t in
    ap items_of (reads k ∙ ap (λ q. cond (same_tenant_key q k) (Some w) (was k)) at ∙ ap (λ b. cond b (Some w) (was k)) (key_same s t))
    ∙ written_if (same_tenant s t) f (was k) v w
    (λ same. ap was (ap tenant_key (sym (same_tenants s t same)) ∙ sym at) ∙ here) writes

same_if : (b : Bool) (xs : List ℕ) → (if b then xs else xs) ≡ xs
same_if true xs = refl
same_if false xs = refl

-- where the list of a tenant kept its items
pub rewritten : (key : TenantKey) (s t : Tenant) (was is : TenantKey → Option (Vec ℕ)) (v w : Vec ℕ)
    → key ≡ tenant_key s → was key ≡ Some v → w.items ≡ v.items
    → ((q : TenantKey) → is q ≡ cond (same_tenant_key key q) (Some w) (was q))
    → items_of (is (tenant_key t)) ≡ items_of (was (tenant_key t))
rewritten key s t was is v w at here writes reads =
    written key s t (λ xs. xs) was is v w at here writes reads ∙ same_if (same_tenant s t) (items_of (was (tenant_key t)))

none_of : (o : Option (Vec ℕ)) → is_some o ≡ false → items_of o ≡ []
none_of None h = refl
none_of (Some v) h = absurd (false≢true (sym h))

begun_if : (b : Bool) (was : Option (Vec ℕ)) (v : Vec ℕ) → (b ≡ true → is_some was ≡ false) → v.items ≡ []
    → items_of (cond b (Some v) was) ≡ items_of was
begun_if true was v none empty = empty ∙ sym (none_of was (none refl))
begun_if false was v none empty = refl

-- where a tenant without a list was given an empty one
pub begun : (key : TenantKey) (s t : Tenant) (was is : TenantKey → Option (Vec ℕ)) (v : Vec ℕ)
    → key ≡ tenant_key s → is_some (was key) ≡ false → v.items ≡ []
    → ((q : TenantKey) → is q ≡ cond (same_tenant_key key q) (Some v) (was q))
    → items_of (is (tenant_key t)) ≡ items_of (was (tenant_key t))
begun key s t was is v at none empty reads =
    let k = tenant_key t in
    ap items_of (reads k ∙ ap (λ q. cond (same_tenant_key q k) (Some v) (was k)) at ∙ ap (λ b. cond b (Some v) (was k)) (key_same s t))
    ∙ begun_if (same_tenant s t) (was k) v
    (λ same. ap (λ q. is_some (was q)) (ap tenant_key (sym (same_tenants s t same)) ∙ sym at) ∙ none) empty
