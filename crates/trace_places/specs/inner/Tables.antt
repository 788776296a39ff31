-- The tables that say where pages are, and when they stand for entries.
use Rattle.std.specs.Prelude.{◌≡◌, ℕ, ◌≤◌, ◌==◌, ◌&&◌, Bool, if◌then◌else◌, nat_eq, List, Option, Some, None}
use Rattle.std.specs.HashMap.{get, spare}
use Rattle.sgx_rules.specs.declared.entries.Entry.{Entry}
use Rattle.sgx_rules.specs.Frames.{vas_made}
use Rattle.sgx_types.specs.declared.names.Page.{Page}
use Rattle.sgx_types.specs.Pages.{same_page}
use Rattle.trace_places.specs.declared.change.Tenant.{Tenant}
use Rattle.trace_places.specs.declared.change.Tenant.TheVariants.{Has, Awaits}
use Rattle.trace_places.specs.declared.change.Change.{Change}
use Rattle.trace_places.specs.declared.change.Change.TheVariants.{Puts, Empties}
use Rattle.trace_places.specs.declared.moves.MayMove.{MayMove}
use Rattle.trace_places.specs.declared.moves.PageMove.{PageMove}
use Rattle.trace_places.specs.declared.moves.Where.{Where}
use Rattle.trace_places.specs.declared.places.Places.{Places}
use Rattle.trace_places.specs.Places.{change_by, frame_changed, tenant_of, tenant_after, tenant, is_tenant, put_in, take_out, frames_having}
use Rattle.trace_places.specs.Places.{least, gone_after, gone_last, where_by, moved, va_number, page_at_frame, page_named, other_than}
use Rattle.trace_places.specs.inner.Frames.{frames_in, HasFrameRoom}

-- ---- what is read from the tables

abbrev pub tenant_in : Places → ℕ → Option Tenant
tenant_in known n = get nat_eq known.tenants n

abbrev pub gone_in : Places → Page → Option ℕ
gone_in known g = get same_page known.gone g

abbrev pub place_in : Places → Page → Where
place_in known g = where_by (least (frames_in known.frames (Has g))) (least (frames_in known.frames (Awaits g))) (gone_in known g)

-- the tables stand for these entries
pub record Stands (known : Places) (past : List Entry) : Type 0 where
  pub tenants : (n : ℕ) → tenant_in known n ≡ tenant past n
  pub frames : (t : Tenant) → frames_in known.frames t ≡ frames_having past t
  pub gone : (g : Page) → gone_in known g ≡ gone_last past g
  pub next_va : known.next_va ≡ va_number (vas_made past)

-- ---- room

abbrev pub HasListRoom : Places → Option Change → Type 0
HasListRoom known (Some (Puts f t)) = HasFrameRoom known.frames t
HasListRoom known (Some (Empties f went)) = Unit {0}
HasListRoom known None = Unit {0}

-- a change needs no memory
pub record HasRoomToMake (known : Places) (change : Option Change) : Type 0 where
  pub tenants : 1 ≤ spare known.tenants
  pub gone : 1 ≤ spare known.gone
  pub list : HasListRoom known change

-- .. which an entry makes
abbrev pub PlacesHaveRoom : Places → Entry → Type 0
PlacesHaveRoom known e = HasRoomToMake known (change_by e.event known.next_va)

-- ---- what a change does to the tables

-- the frames of a tenant, where this frame had another one before the change
abbrev pub frames_with : Change → Option Tenant → Tenant → List ℕ → List ℕ
frames_with change former t before =
    if is_tenant (tenant_of change) t
    then put_in (frame_changed change) before
    else (if is_tenant former t then take_out (frame_changed change) before else before)

pub record MakesChange (old : Places) (change : Change) (new : Places) : Type 0 where
  pub tenants : (n : ℕ) → tenant_in new n ≡ tenant_after (Some change) n (tenant_in old n)
  pub frames : (t : Tenant) → frames_in new.frames t
      ≡ frames_with change (tenant_in old (frame_changed change)) t (frames_in old.frames t)
  pub gone : (g : Page) → gone_in new g ≡ gone_after (Some change) g (gone_in old g)
  pub next_va : new.next_va ≡ old.next_va

-- ---- what moves

-- the pages that a change may move
abbrev pub pages_in : Places → Change → MayMove
pages_in known change =
    let former = page_at_frame (tenant_in known (frame_changed change)) in
    record { former = former; named = other_than former (page_named change) }

abbrev pub pages_if : Places → Option Change → MayMove
pages_if known None = record { former = None; named = None }
pages_if known (Some change) = pages_in known change

-- .. and an entry
abbrev pub may_move : Places → Entry → MayMove
may_move known e = pages_if known (change_by e.event known.next_va)

-- a page, and where it is
abbrev pub seen_in : Places → Option Page → Option PageMove
seen_in known None = None
seen_in known (Some g) = Some (record { page = g; to = place_in known g })

abbrev pub move_to : Page → Option Where → Option PageMove
move_to g None = None
move_to g (Some to) = Some (record { page = g; to = to })

-- where a page that was seen is now, None where it is where it was
abbrev pub move_in : Places → Option PageMove → Option PageMove
move_in known None = None
move_in known (Some seen) = move_to seen.page (moved seen.to (place_in known seen.page))
