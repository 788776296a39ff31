-- Which SECS or version array page is due to be written out: the SECS of an enclave of which no page is left, and a version array page
-- all of whose slots are out.
use Rattle.std.specs.Prelude.{ℕ, zero, suc, ◌==◌, ◌+◌, ◌&&◌, ◌||◌, not, Bool, true, false, if◌then◌else◌, List, [], ◌∷◌, Option, Some}
use Rattle.std.specs.Prelude.{None, length}
use Rattle.sgx_rules.specs.declared.entries.Entry.{Entry}
use Rattle.sgx_rules.specs.declared.entries.Event.{Event}
use Rattle.sgx_rules.specs.declared.entries.Event.TheVariants.{Age, Did, Refused}
use Rattle.sgx_rules.specs.declared.entries.Action.TheVariants.{Ewb, EwbStart}
use Rattle.sgx_rules.specs.declared.entries.Answer.TheVariants.{Moved}
use Rattle.sgx_types.specs.declared.names.Page.{Page}
use Rattle.sgx_types.specs.declared.names.VaSlot.{VaSlot}
use Rattle.sgx_types.specs.Counts.{any_below}
use Rattle.sgx_rules.specs.Frames.{children, content, vas_made}
use Rattle.sgx_types.specs.Pages.{is_own_page, is_secs_page, secs_page, va_page}
use Rattle.sgx_rules.specs.Slots.{is_slot_busy, is_va_in_use, names_slot, version_in}
use Rattle.sgx_rules.specs.Starts.{slot_found}
use Rattle.job_grammar.specs.Jobs.{JobView}
use Rattle.script_rules.specs.Script.{is_initialised}
use Rattle.driver_rules.specs.Holds.{is_held_below}
use Rattle.driver_rules.specs.Places.{is_here, place}
use Rattle.driver_rules.specs.Stops.{last_event}
use Rattle.sgx_rules.specs.declared.entries.Look.TheVariants as looks
use Rattle.sgx_types.specs.declared.names.Actor.TheVariants as actors
use Rattle.sgx_rules.specs.declared.refusals.Refusal.TheVariants as why

-- ---- which slots are out

-- slots of which some test tells that they are out
abbrev pub Outs : Type 0
Outs = VaSlot → Bool

-- of a version array page each of the 512 slots is out
unfoldable pub is_full : Outs → ℕ → Bool
is_full out va = not (any_below (λ index. not (out (record { va = va; index = index }))) 512)

-- by the entries: a slot is out where it is busy, or has a version
abbrev pub outs : JobView → List Entry → Outs
outs j past s = is_slot_busy j.epc past s || not (version_in past s == 0)

-- .. and as the driver keeps it: also one that a try found in use, which then stays out
abbrev pub was_occupied_by : List Entry → Event → VaSlot → Bool → Bool
was_occupied_by past (Refused (EwbStart f slot) (why.SlotOccupied version)) s before =
    if names_slot (slot_found (content past) slot) s then true else before
was_occupied_by past _ s before = before

abbrev pub was_occupied : List Entry → VaSlot → Bool
was_occupied [] s = false
was_occupied (e ∷ past) s = was_occupied_by past e.event s (was_occupied past s)

abbrev pub outs_kept : JobView → List Entry → Outs
outs_kept j past s = if was_occupied past s then true else outs j past s

-- ---- spare pages

-- a version array page but the first that is here, with all its slots out and none of them busy, and that no processor brought back
-- since its last reply
abbrev pub is_spare : JobView → List Entry → Outs → ℕ → Bool
is_spare j past out va =
    not (va == 0) && is_here (place past (va_page va)) && is_full out va && not (is_va_in_use j.epc past va) && not
    (is_held_below j past (va_page va) (length j.scripts))

-- the least of so many numbers from one on that passes
abbrev pub least_from : (ℕ → Bool) → ℕ → ℕ → Option ℕ
least_from test n zero = None
least_from test n (suc count) = if test n then Some n else least_from test (n + 1) count

abbrev pub array_at : Option ℕ → Option Page
array_at None = None
array_at (Some va) = Some (va_page va)

-- the spare page with the least number
abbrev pub spare : JobView → List Entry → Outs → Option Page
spare j past out = array_at (least_from (is_spare j past out) 0 (vas_made past))

-- ---- which page is due

-- the enclave is initialised, and its SECS is here, with no page of it left
abbrev pub is_alone : JobView → List Entry → ℕ → Bool
is_alone j past enclave =
    is_initialised past enclave && is_here (place past (secs_page enclave)) && (children j.epc (content past) enclave == 0)

-- behind the write-out of a page its SECS, where this is alone, and else a spare page
abbrev pub due_behind : JobView → List Entry → Outs → Page → Option Page
due_behind j past out page =
    if is_own_page page && is_alone j past page.enclave then Some (secs_page page.enclave) else spare j past out

-- .. and behind a SECS for whose record the store had no room a spare page
abbrev pub due_by : JobView → List Entry → Outs → Option Event → Option Page
due_by j past out (Some (Did (Ewb f) (Moved page version tag))) = due_behind j past out page
due_by j past out (Some (Age page looks.NoRoom)) = if is_secs_page page then spare j past out else None
due_by j past out _ = None

-- by the reclaimer's last entry
abbrev pub due_with : JobView → List Entry → Outs → Option Page
due_with j past out = due_by j past out (last_event past actors.Reclaimer)
