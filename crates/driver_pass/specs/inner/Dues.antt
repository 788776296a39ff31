-- Which SECS or version array page is due, by a driver's tables and a machine.
use Rattle.std.specs.Prelude.{ℕ, ◌≡◌, ◌-◌, ◌<◌, ◌≤◌, ◌==◌, ◌&&◌, not, Bool, true, false, if◌then◌else◌, List, Option, Some, None}
use Rattle.sgx_rules.specs.declared.entries.Entry.{Entry}
use Rattle.sgx_rules.specs.Flat.{enclave_sight_of}
use Rattle.sgx_rules.specs.Frames.{children, vas_made}
use Rattle.sgx_rules.specs.Table.{is_ready, is_va}
use Rattle.sgx_types.specs.declared.names.Frame.{Frame}
use Rattle.sgx_types.specs.declared.names.Page.{Page}
use Rattle.sgx_types.specs.declared.names.VaSlot.{VaSlot}
use Rattle.sgx_types.specs.Pages.{is_own_page, secs_page, va_page}
use Rattle.driver_list.specs.declared.page_states.PageState.{PageState}
use Rattle.driver_list.specs.declared.page_states.PageState.TheVariants.{Here}
use Rattle.driver_list.specs.inner.Holds.{is_held}
use Rattle.driver_list.specs.inner.Places.{IsPlaced}
use Rattle.driver_list.specs.inner.States.{state_of}
use Rattle.driver_slots.specs.inner.Keeper.{is_added, is_full, is_out, Keeper}
use Rattle.machine_laws.specs.inner.State.{is_in_use, State}
use Rattle.driver_rules.specs.Spares.{array_at, least_from, Outs}
use Rattle.driver_laws.specs.inner.Agrees.{Keeping}
use Rattle.driver_tables.specs.declared.driver.Driver.{Driver}
use Rattle.driver_tables.specs.inner.Targets.{is_here_in}
use Rattle.driver_pass.specs.declared.stages.Behind.{Behind}
use Rattle.driver_pass.specs.declared.stages.Behind.TheVariants as last

-- a version array page that is here, of whose slots none can be taken and no open start names one, and that nobody holds
abbrev pub is_spare_state : Driver → State → ℕ → PageState → Bool
is_spare_state d s va (Here f) = is_full d.slots va && not (is_in_use s f.0) && not (is_held d.active.own (va_page va))
is_spare_state d s va state = false

abbrev pub is_spare_in : Driver → State → ℕ → Bool
is_spare_in d s va = is_spare_state d s va (state_of d.states (va_page va))

-- of the pages but the first the one with the least number
abbrev pub spare_in : Driver → State → Option Page
spare_in d s = array_at (least_from (is_spare_in d s) 1 (d.va_pages - 1))

-- an initialised enclave whose SECS is here, with no page left
abbrev pub is_alone_in : Driver → State → ℕ → Bool
is_alone_in d s enclave =
    is_ready (enclave_sight_of (s.enclaves enclave)) && is_here_in d.states (secs_page enclave)
    && (children s.frames s.content enclave == 0)

-- by the reclaimer's last entry
abbrev pub due_in : Driver → State → Behind → Option Page
due_in d s (last.Out page) =
    if is_own_page page && is_alone_in d s page.enclave then Some (secs_page page.enclave) else spare_in d s
due_in d s last.NoRoom = spare_in d s
due_in d s last.Nothing = None

-- ---- what is asked for it

-- the enclave of a TCS or REG page that has gone out has a place for its SECS
abbrev pub HasSecs : Driver → Behind → Type 0
HasSecs d (last.Out page) =
    is_own_page page ≡ true → IsPlaced d.states.counts (secs_page page.enclave) × (1 ≤ page.enclave) × (page.enclave ≤ 8)
HasSecs d _ = Unit {0}

pub record CanBeDue (d : Driver) (s : State) (behind : Behind) : Type 0 where
  pub counts : d.states.counts ≡ d.active.counts
  -- each version array page has a place; where it is here, it is in its frame, and its slots are the keeper's
  pub arrays : (va : ℕ) → va < d.va_pages → IsPlaced d.states.counts (va_page va)
  pub here : (va : ℕ) (f : Frame) → va < d.va_pages → state_of d.states (va_page va) ≡ Here f
      → (is_va (s.content f.0) ≡ true) × (is_added d.slots va ≡ true)
  pub secs : HasSecs d behind

-- ---- what the rules count as out

-- the keeper has all slots of the version array pages but the first
abbrev pub HasAllSlots : Keeping → Type 0
HasAllSlots k = (va : ℕ) → (va == 0) ≡ false → k.firsts va ≡ 0

-- .. and one of them is out exactly where a rule counts it so
abbrev pub ShowsOuts : Keeper → List Entry → Outs → Type 0
ShowsOuts keeper past out =
    (s : VaSlot) → (s.va == 0) ≡ false → s.va < vas_made past → s.index < 512 → is_out keeper s ≡ out s
