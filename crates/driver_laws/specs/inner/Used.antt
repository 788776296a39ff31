-- What the entries give of slots as long as each entry is the driver's: the slot of a page that is outside holds a version, a write-out
-- has drawn one, and no two starts name one slot. A version array page may come back from a record that was forged; so what a start
-- finds in a slot is no part of it.
use Rattle.std.specs.Prelude.{ℕ, ◌≡◌, ◌<◌, ◌==◌, nat_lt, not, Bool, true, false, List, Option, Some, None}
use Rattle.sgx_rules.specs.declared.entries.Action.TheVariants.{Ewb, EwbStart}
use Rattle.sgx_rules.specs.declared.entries.Answer.TheVariants.{Moved}
use Rattle.sgx_rules.specs.declared.entries.Entry.{Entry}
use Rattle.sgx_rules.specs.declared.entries.Event.{Event}
use Rattle.sgx_rules.specs.declared.entries.Event.TheVariants.{Did}
use Rattle.sgx_types.specs.declared.names.Page.{Page}
use Rattle.sgx_types.specs.declared.names.SlotAt.{SlotAt}
use Rattle.sgx_types.specs.declared.names.VaSlot.{VaSlot}
use Rattle.sgx_rules.specs.Frames.{is_sealing}
use Rattle.sgx_rules.specs.Sights.{sight_at}
use Rattle.sgx_rules.specs.Slots.{is_busy_at, version_in}
use Rattle.sgx_types.specs.Cases.{allowed, when, ◌otherwise◌}
use Rattle.sgx_rules.specs.Table.{DrainSight, Row, SlotSight}
use Rattle.sgx_rules.specs.Starts.{open_start, Start, version_told}
use Rattle.driver_rules.specs.Places.{Away, Place, place}
use Rattle.driver_laws.specs.inner.Sound.{is_write_start, slot_of, slot_outside}
use Rattle.sgx_rules.specs.declared.refusals.Refusal.TheVariants as why

-- ---- slots that are used

-- in the slot of a page that is outside is a version
abbrev pub SlotsAreFilled : (Page → Place) → (VaSlot → ℕ) → Type 0
SlotsAreFilled at version = (g : Page) (slot : VaSlot) → slot_outside (at g) ≡ Some slot → 0 < version slot

-- an open start of a write-out has drawn a version
abbrev pub WritesHaveDrawn : (ℕ → Option Start) → Type 0
WritesHaveDrawn opened = (n : ℕ) (x : Start) → opened n ≡ Some x → x.loads ≡ None → 0 < x.version

pub record SlotsAreUsed (past : List Entry) : Type 0 where
  pub filled : SlotsAreFilled (place past) (version_in past)
  pub drawn : WritesHaveDrawn (open_start past)

-- what a move tells is so: a write-out's frame has no open start before, it draws a version, its slot is one of 512, and it goes out under
-- that version
abbrev pub StartTells : List Entry → Event → Type 0
StartTells past (Did (EwbStart f slot) answer) =
    (open_start past f.0 ≡ None) × (0 < version_told answer) × (nat_lt slot.index 512 ≡ true)
StartTells past (Did (Ewb f) (Moved page version tag)) =
    (x : Start) × (open_start past f.0 ≡ Some x) × (x.loads ≡ None) × (version ≡ x.version)
StartTells past _ = Unit {0}

-- a page is on its way out of a frame exactly where a start of a write-out is open
abbrev pub SealingAreOpen : List Entry → Type 0
SealingAreOpen past = (n : ℕ) → is_sealing past n ≡ is_write_start (open_start past n)

-- ---- versions

-- each version in a slot stands for a page that has the slot
abbrev pub VersionsStand : List Entry → Type 0
VersionsStand past = (s : VaSlot) → (version_in past s == 0) ≡ false → (g : Page) × (slot_of past g ≡ Some s)

-- ---- starts that are alone

pub record StartsAlone (past : List Entry) : Type 0 where
  -- no two open starts name one slot
  pub apart : (m n : ℕ) (x y : Start) → open_start past m ≡ Some x → open_start past n ≡ Some y → x.slot ≡ y.slot → m ≡ n
  -- none names that of a page that is away
  pub away : (n : ℕ) (x : Start) (g : Page) → open_start past n ≡ Some x → place past g ≡ Away x.slot → ⊥

-- ---- what is left to refuse

-- what is seen of a slot by the entries, but for the version that its version array page has there: that is what a record brought back,
-- where the page came back from one
abbrev pub slot_with : ℕ → List Entry → SlotAt → ℕ → SlotSight
slot_with frames past at version = record {
  frame = sight_at frames past at.frame.0;
  is_beyond = nat_lt 511 at.index;
  is_busy = is_busy_at frames past at;
  version = version;
}

-- .. a load, by the version in its slot
abbrev pub load_left : ℕ → Row
load_left version =
    when (version == 0) why.SlotEmpty
    otherwise allowed

-- .. a write-out of a SECS or a version array page, by the version in its slot and by whether all versions were drawn
abbrev pub start_left : ℕ → Bool → Row
start_left version is_spent =
    when (not (version == 0)) (why.SlotOccupied version)
    otherwise when is_spent why.VersionSpent
    otherwise allowed

-- .. and of a page that was taken and blocked, by its tracking first
abbrev pub left_to_refuse : DrainSight → ℕ → Bool → Row
left_to_refuse drain version is_spent =
    when (not drain.is_drained) (why.NotTracked drain.epoch drain.kept_back)
    otherwise start_left version is_spent
