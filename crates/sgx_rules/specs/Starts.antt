-- The starts of EWB and ELDU that have not ended, by the entries before a place.
use Rattle.std.specs.Prelude.{ℕ, ◌==◌, if◌then◌else◌, List, [], ◌∷◌, length, Option, Some}
use Rattle.std.specs.Prelude.{None}
use Rattle.sgx_types.specs.declared.names.Actor.{Actor}
use Rattle.sgx_rules.specs.declared.entries.Answer.{Answer}
use Rattle.sgx_rules.specs.declared.entries.Answer.TheVariants.{Version}
use Rattle.sgx_rules.specs.declared.entries.Entry.{Entry}
use Rattle.sgx_rules.specs.declared.entries.Event.{Event}
use Rattle.sgx_rules.specs.declared.entries.Event.TheVariants.{Did, Refused}
use Rattle.sgx_rules.specs.declared.entries.Action.TheVariants.{EwbStart, Ewb, EldStart, Eld}
use Rattle.sgx_types.specs.declared.names.Page.{Page}
use Rattle.sgx_types.specs.declared.names.SlotAt.{SlotAt}
use Rattle.sgx_types.specs.declared.names.VaSlot.{VaSlot}
use Rattle.sgx_rules.specs.Frames.{Content, IsVa, content}

-- where a start found its slot, and which slot this was; the version that an EWB drew or an ELDU found in the slot, the page that an
-- ELDU loads (an EWB takes the page in its frame), the place of the entry that started it, which is the number of entries before
-- that one, and its actor
pub record Start : Type 0 where
  pub at : SlotAt
  pub slot : VaSlot
  pub version : ℕ
  pub loads : Option Page
  pub place : ℕ
  pub actor : Actor

-- the version that a start answers
abbrev pub version_told : Answer → ℕ
version_told (Version version) = version
version_told _ = 0

-- the slot of this index in what a frame holds, which only a version array page has
abbrev pub slot_in : Content → ℕ → Option VaSlot
slot_in (IsVa number) index = Some (record { va = number; index = index })
slot_in _ index = None

-- the slot that is found in a frame, by what frames hold
abbrev pub slot_found : (ℕ → Content) → SlotAt → Option VaSlot
slot_found held at = slot_in (held at.frame.0) at.index

-- a start by its entry and the slot that it found. Where its frame held no version array page it is none: no list that keeps the
-- rule Refusal has such a start
abbrev pub started : Actor → ℕ → SlotAt → Answer → Option Page → Option VaSlot → Option Start
started actor place at answer loads None = None
started actor place at answer loads (Some slot) =
    Some (record { at = at; slot = slot; version = version_told answer; loads = loads; place = place; actor = actor })

-- what an event of an actor at a place leaves of a frame's start, by what frames held before it
abbrev pub opened_by : Actor → ℕ → (ℕ → Content) → Event → ℕ → Option Start → Option Start
opened_by actor place held (Did (EwbStart f at) answer) n before =
    if f.0 == n then started actor place at answer None (slot_found held at) else before
opened_by actor place held (Did (EldStart f page at) answer) n before =
    if f.0 == n then started actor place at answer (Some page) (slot_found held at) else before
opened_by actor place held (Did (Ewb f) answer) n before = if f.0 == n then None else before
opened_by actor place held (Did (Eld f) answer) n before = if f.0 == n then None else before
opened_by actor place held (Refused (Eld f) why) n before = if f.0 == n then None else before
opened_by actor place held _ n before = before

-- the open start of a frame
abbrev pub open_start : List Entry → ℕ → Option Start
open_start [] n = None
open_start (e ∷ past) n = opened_by e.actor (length past) (content past) e.event n (open_start past n)
