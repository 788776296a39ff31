-- Facts on the test of tenants.
use Rattle.std.proofs.Common.{◌≡◌, true, refl, ap}
use Rattle.std.proofs.lemmas.Bool.{false≢true}
use Rattle.sgx_types.proofs.Pages.{same_pages, same_page-refl}
use Rattle.trace_places.specs.declared.change.Tenant.{Tenant}
use Rattle.trace_places.specs.declared.change.Tenant.TheVariants.{Has, Awaits}
use Rattle.trace_places.specs.Places.{same_tenant}
use Rattle.trace_places.specs.inner.Frames.{same_tenant_key, tenant_key}

-- tenants that the test finds the same are equal
pub same_tenants : (s t : Tenant) → same_tenant s t ≡ true → s ≡ t
same_tenants (Has a) (Has b) h = ap Has (same_pages a b h)
same_tenants (Has a) (Awaits b) h = absurd (false≢true h)
same_tenants (Awaits a) (Has b) h = absurd (false≢true h)
same_tenants (Awaits a) (Awaits b) h = ap Awaits (same_pages a b h)

pub same_tenant-refl : (t : Tenant) → same_tenant t t ≡ true
same_tenant-refl (Has a) = same_page-refl a
same_tenant-refl (Awaits a) = same_page-refl a

-- the keys of tenants are the same where the tenants are
pub key_same : (s t : Tenant) → same_tenant_key (tenant_key s) (tenant_key t) ≡ same_tenant s t
key_same (Has a) (Has b) = refl
key_same (Has a) (Awaits b) = refl
key_same (Awaits a) (Has b) = refl
key_same (Awaits a) (Awaits b) = refl
