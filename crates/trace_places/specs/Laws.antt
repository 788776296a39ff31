-- What the definitions of places come to, by whose each frame is.
use Rattle.std.specs.Prelude.{◌≡◌, ℕ, ◌<◌, ◌≤◌, ◌==◌, ◌||◌, Bool, true, false, List, [], ◌∷◌, Option, Some, None, is_some}
use Rattle.sgx_rules.specs.declared.entries.Entry.{Entry}
use Rattle.sgx_rules.specs.declared.entries.Event.{Event}
use Rattle.sgx_rules.specs.declared.entries.Event.TheVariants.{Did}
use Rattle.sgx_rules.specs.declared.entries.Action.TheVariants.{Eld}
use Rattle.sgx_rules.specs.declared.entries.Answer.TheVariants.{Moved}
use Rattle.sgx_rules.specs.Frames.{Content, Free, IsVa, SecsOf, Holds, IsLoading, added}
use Rattle.sgx_types.specs.declared.names.Kind.{Kind}
use Rattle.sgx_types.specs.declared.names.Perm.{Perm}
use Rattle.sgx_types.specs.Pages.{is_own_page, is_va_page, page_at}
use Rattle.sgx_types.specs.declared.names.Page.{Page}
use Rattle.trace_places.specs.declared.change.Tenant.{Tenant}
use Rattle.trace_places.specs.declared.change.Tenant.TheVariants.{Has, Awaits}
use Rattle.trace_places.specs.declared.moves.Where.{Where}
use Rattle.trace_places.specs.declared.moves.Where.TheVariants.{Nowhere, At, Loading, Sealed}
use Rattle.trace_places.specs.Places.{va_number, tenant, is_tenant, frames_having, gone_last}

-- ---- the frames of a tenant

abbrev pub has_number : List ℕ → ℕ → Bool
has_number [] n = false
has_number (m ∷ ms) n = (m == n) || has_number ms n

-- the numbers are above this one, and each is above the one before it
abbrev pub RiseFrom : ℕ → List ℕ → Type 0
RiseFrom b [] = Unit {0}
RiseFrom b (m ∷ ms) = (b < m) × RiseFrom m ms

abbrev pub IsRising : List ℕ → Type 0
IsRising [] = Unit {0}
IsRising (m ∷ ms) = RiseFrom m ms

-- the frames of a tenant are those that it has, and rise
pub record AreFrames (past : List Entry) (t : Tenant) : Type 0 where
  pub among : (n : ℕ) → has_number (frames_having past t) n ≡ is_tenant (tenant past n) t
  pub rising : IsRising (frames_having past t)

-- ---- where a page is

-- no frame has the page, or none awaits it
abbrev pub HasNone : List Entry → Tenant → Type 0
HasNone past t = (m : ℕ) → is_tenant (tenant past m) t ≡ false

-- the frame has the page, or awaits it, and no lesser one does
pub record IsLeast (past : List Entry) (t : Tenant) (n : ℕ) : Type 0 where
  pub has : is_tenant (tenant past n) t ≡ true
  pub least : (m : ℕ) → is_tenant (tenant past m) t ≡ true → n ≤ m

-- a page is at the least frame that has it; else awaited by the least that awaits it; else sealed under the last version with which
-- it went out; else it never went out
abbrev pub IsWhere : List Entry → Page → Where → Type 0
IsWhere past g (At f) = IsLeast past (Has g) f.0
IsWhere past g (Loading f) = HasNone past (Has g) × IsLeast past (Awaits g) f.0
IsWhere past g (Sealed v) = HasNone past (Has g) × HasNone past (Awaits g) × (gone_last past g ≡ Some v)
IsWhere past g Nowhere = HasNone past (Has g) × HasNone past (Awaits g) × (gone_last past g ≡ None)

-- ---- what a frame holds, as the rules of the machine have it

abbrev pub va_tenant : Option ℕ → Option Tenant
va_tenant None = None
va_tenant (Some number) = Some (Has (page_at 0 number))

-- whose a frame is that holds this
abbrev pub tenant_by : Content → Option Tenant
tenant_by Free = None
tenant_by (IsVa number) = va_tenant (va_number number)
tenant_by (SecsOf enclave) = Some (Has (page_at enclave 4294967295))
tenant_by (Holds page kind perm) = Some (Has page)
tenant_by (IsLoading page) = Some (Awaits page)

-- a load that ends brings a page that there can be: a TCS or REG page that was added, a SECS, or a version array page with a number of 4
-- bytes
abbrev pub IsOfAdded : (Page → Option (Kind × Perm)) → Event → Type 0
IsOfAdded was (Did (Eld f) (Moved page version tag)) =
    (is_own_page page ≡ true → is_some (was page) ≡ true) × (is_va_page page ≡ true → va_number page.number ≡ Some page.number)
IsOfAdded was event = Unit {0}

-- .. as each one did
abbrev pub LoadsAdded : List Entry → Type 0
LoadsAdded [] = Unit {0}
LoadsAdded (e ∷ past) = IsOfAdded (added past) e.event × LoadsAdded past
