-- The lists of frames, by the page that they have or await.
use Rattle.std.specs.Prelude.{ℕ, ◌<◌, ◌≤◌, ◌==◌, ◌&&◌, Bool, true, false, List, length, get_or, IsSomeAnd}
use Rattle.std.specs.Prelude.{IsSome, vec_len, vec_capacity}
use mathlib.Core.Bool.{beq}
use Rattle.std.specs.HashMap.{get}
use Rattle.sgx_types.specs.declared.names.Page.{Page}
use Rattle.trace_places.specs.declared.change.Tenant.{Tenant}
use Rattle.trace_places.specs.declared.change.Tenant.TheVariants.{Has, Awaits}
use Rattle.trace_places.specs.declared.frame_lists.TenantKey.{TenantKey}
use Rattle.trace_places.specs.declared.frame_lists.FrameLists.{FrameLists}
use Rattle.trace_spans.specs.inner.Listed.{items_of}

-- the keys are those of the same tenant
abbrev pub same_tenant_key : TenantKey → TenantKey → Bool
same_tenant_key a b = beq a.awaited b.awaited && ((a.enclave == b.enclave) && (a.number == b.number))

abbrev pub tenant_key_of : Page → Bool → TenantKey
tenant_key_of page awaited = record { awaited = awaited; enclave = page.enclave; number = page.number }

abbrev pub tenant_key : Tenant → TenantKey
tenant_key (Has page) = tenant_key_of page false
tenant_key (Awaits page) = tenant_key_of page true

-- the frames of a tenant: none where there is no list
abbrev pub frames_in : FrameLists → Tenant → List ℕ
frames_in known t = items_of (get same_tenant_key known.lists (tenant_key t))

-- a tenant has a list, be it an empty one
abbrev pub HasFrameList : FrameLists → Tenant → Type 0
HasFrameList known t = IsSome (get same_tenant_key known.lists (tenant_key t))

-- a frame more of a tenant needs no memory
abbrev pub HasFrameRoom : FrameLists → Tenant → Type 0
HasFrameRoom known t = IsSomeAnd (get same_tenant_key known.lists (tenant_key t)) (λ list. vec_len list < vec_capacity list)

-- the place of the first number from this one on, the length where there is none
pub record IsFirstFrom (list : List ℕ) (n place : ℕ) : Type 0 where
  pub within : place ≤ length list
  pub before : (k : ℕ) → k < place → get_or list k 0 < n
  pub from : place < length list → n ≤ get_or list place 0
