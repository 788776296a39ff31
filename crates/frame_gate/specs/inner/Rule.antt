-- The rule of a gate: how its words and what its seats know fit together between any two steps, and what each kind of step
-- tells its seat.
use Rattle.std.specs.Prelude.{◌≡◌, ℕ, ◌+◌, ◌-◌, ◌%◌, ◌^◌, ◌<◌, ◌≤◌, ◌⊎◌, ◌==◌, Bool, true}
use Rattle.std.specs.Prelude.{false, List, [], ◌∷◌, length, slice_index, Option, Some, None}
use mathlib.Core.Option.{some}
use lib.ListN.{get_elem?}
use Rattle.atomic_table.specs.Table.{State, Me, Step}
use Rattle.frame_gate.specs.declared.view.View.{View}
use Rattle.frame_gate.specs.declared.view.Ledger.{Ledger}
use Rattle.frame_gate.specs.declared.view.Pair.{Pair}
use Rattle.frame_gate.specs.declared.view.Written.{Written}
use Rattle.frame_gate.specs.declared.view.Role.{Role}
use Rattle.frame_gate.specs.declared.view.Role.TheVariants.{Pager, Processor}
use Rattle.frame_gate.specs.declared.limits.TheConstants.{MOST_ENTRIES}
use Rattle.sgx_types.specs.declared.names.TheConstants.{PROCESSORS}
use Rattle.frame_gate.specs.inner.Words.{epoch_word, epoch_in, entries_in, leave_word, frame_word, generation_in, IsBlocked}
use Rattle.frame_gate.specs.inner.Views.{view, after_step, after_load, generation_of, written_of, IsDrained, role_entered}
use Rattle.frame_gate.specs.inner.Views.{role_left, role_filled, role_settled, role_set_back, role_tracked, role_wrote}
use Rattle.frame_gate.specs.inner.Views.{role_holds}

-- the words and the views of all seats
abbrev pub Shared : Type 0
Shared = State (Unit {0}) View

abbrev pub Seat : Type 0
Seat = Me (Unit {0}) View

-- ---- sums over the views

-- f of each, added up
abbrev pub total : {A : Type 0} → (A → ℕ) → List A → ℕ
total f [] = 0
total f (x ∷ xs) = f x + total f xs

abbrev pub one_if : Bool → ℕ
one_if true = 1
one_if false = 0

-- 1 where a processor is inside with this epoch
abbrev pub is_at : ℕ → Option ℕ → ℕ
is_at epoch None = 0
is_at epoch (Some e) = one_if (e == epoch)

abbrev pub role_at : ℕ → Role → ℕ
role_at epoch (Pager l fs) = 0
role_at epoch (Processor p ps) = is_at epoch p.epoch

abbrev pub inside_at : ℕ → View → ℕ
inside_at epoch v = role_at epoch v.role

-- how often a seat has entered
abbrev pub role_entries : Role → ℕ
role_entries (Pager l fs) = 0
role_entries (Processor p ps) = p.entries

abbrev pub entries_of : View → ℕ
entries_of v = role_entries v.role

-- 1 for a processor's seat
abbrev pub role_seats : Role → ℕ
role_seats (Pager l fs) = 0
role_seats (Processor p ps) = 1

abbrev pub seats_of : View → ℕ
seats_of v = role_seats v.role

-- ---- the parts of the rule

-- What the first three words count. `before` is E - 1, and `entries` were made in E
pub record AreCounted (l : Ledger) (before entries : ℕ) (words : List ℕ) (views : List View) : Type 0 where
  pub wide : 3 ≤ length words
  pub epoch : l.epoch ≡ before + 1
  -- word 0 has the pager's epoch
  pub word : slice_index words 0 ≡ epoch_word l.epoch entries
  -- who entered in E is inside, or was counted as he left
  pub inside : total (inside_at l.epoch) views + slice_index words (leave_word l.epoch) ≡ entries
  -- and who entered in E - 1, as long as its leave word was not set back
  pub older : l.is_set_back ≡ false → total (inside_at before) views + slice_index words (leave_word before) ≡ l.kept
  -- it is set back once E - 1 is empty, and is 0 then
  pub set_back : l.is_set_back ≡ true → (l.is_empty ≡ true) × (slice_index words (leave_word before) ≡ 0)
  pub empty : l.is_empty ≡ true → total (inside_at before) views ≡ 0
  pub seats : total seats_of views ≡ l.seats
  pub few : l.seats ≤ PROCESSORS
  -- so the entries of E never fill their part of word 0, nor the leaves their word
  pub made : entries ≤ total entries_of views
  pub limited : l.kept ≤ 2 ^ 32

-- a frame's word is blocked exactly where the pager has blocked it, at an epoch that has begun
abbrev pub IsMarked : ℕ → ℕ → Option ℕ → Type 0
IsMarked epoch word None = word % 4 < 2
IsMarked epoch word (Some b) = IsBlocked word × (b ≤ epoch)

-- the frames' words are those that the pager last wrote
pub record AreWritten (count epoch : ℕ) (frames : List Written) (words : List ℕ) : Type 0 where
  pub all : length frames ≡ count
  pub wide : length words ≡ 3 + count
  pub word : (f : ℕ) → f < count → slice_index words (frame_word f) ≡ (written_of frames f).word
  pub marked : (f : ℕ) → f < count → IsMarked epoch (written_of frames f).word (written_of frames f).blocked

-- a processor inside entered in E or in E - 1
abbrev pub HasEpoch : ℕ → ℕ → Option ℕ → Type 0
HasEpoch epoch before None = Unit {0}
HasEpoch epoch before (Some e) = (e ≡ epoch) ⊎ (e ≡ before)

-- who holds a blocked frame entered at the epoch of the block at the latest
abbrev pub IsUntil : ℕ → Option ℕ → Type 0
IsUntil e None = Unit {0}
IsUntil e (Some b) = e ≤ b

-- a processor that entered at e can hold a frame with the generation g
pub record CanHold (e g : ℕ) (frame : Written) : Type 0 where
  pub generation : generation_in frame.word ≡ g
  pub not_free : 0 < frame.word % 4
  pub until : IsUntil e frame.blocked

-- so it is with each pair of a processor inside
abbrev pub AreHeld : ℕ → List Written → Option ℕ → List Pair → Type 0
AreHeld count frames None ps = Unit {0}
AreHeld count frames (Some e) ps =
    (f generation : ℕ) → generation_of ps f ≡ Some generation → (f < count) × CanHold e generation (written_of frames f)

-- what holds of the view of one seat. One alone is the pager's
abbrev pub RoleFits : ℕ → ℕ → Ledger → List Written → ℕ → ℕ → Role → Type 0
RoleFits count pager l frames before seat (Pager m gs) = (seat ≡ pager) × (m ≡ l) × (gs ≡ frames)
RoleFits count pager l frames before seat (Processor p ps) =
    (p.entries ≤ MOST_ENTRIES) × HasEpoch l.epoch before p.epoch × AreHeld count frames p.epoch ps

-- who is inside entered after each epoch through which the pager has a frame drained, and does not hold that frame
abbrev pub IsPastDrained : Ledger → List Written → Role → Type 0
IsPastDrained l frames (Pager m gs) = Unit {0}
IsPastDrained l frames (Processor p ps) =
    (f b e : ℕ) → IsDrained l (written_of frames f) b → p.epoch ≡ Some e → (b < e) × (generation_of ps f ≡ None)

-- ---- the rule, for a gate with so many frames

pub record AreFramesKept (count : ℕ) (table : Shared) : Type 0 where
  -- the pager's seat, and what it knows
  pub pager : ℕ
  pub ledger : Ledger
  pub frames : List Written
  -- E - 1, and the entries of E
  pub before : ℕ
  pub entries : ℕ
  pub there : (x : View) × (get_elem? table.views pager ≡ some x) × (x.role ≡ Pager ledger frames)
  pub counted : AreCounted ledger before entries table.words table.views
  pub written : AreWritten count ledger.epoch frames table.words
  pub each : (seat : ℕ) (v : View) → get_elem? table.views seat ≡ some v → RoleFits count pager ledger frames before seat v.role
  pub drained : (seat : ℕ) (v : View) → get_elem? table.views seat ≡ some v → IsPastDrained ledger frames v.role

-- ---- the kinds of step

-- a processor adds 1 to word 0, and entered in the epoch that it found
abbrev pub Enters : Step (Unit {0}) → Seat → ℕ → Seat → Type 0
Enters step before found after = after.0 ≡ view (role_entered before.0.role (epoch_in found)) (after_step before.0.counter)

-- it adds 1 to the leave word of its epoch
abbrev pub Leaves : Step (Unit {0}) → Seat → ℕ → Seat → Type 0
Leaves step before found after = after.0 ≡ view (role_left before.0.role) (after_step before.0.counter)

-- what it holds of a frame is what a look at the frame finds
abbrev pub Meets : Role → ℕ → ℕ → Type 0
Meets role f found = (generation : ℕ) → role_holds role f ≡ Some generation → generation_in found ≡ generation

-- it looks at a frame's word, and holds the frame where that is held
abbrev pub Fills : Step (Unit {0}) → Seat → ℕ → Seat → Type 0
Fills step before found after =
    (after.0 ≡ view (role_filled before.0.role (step.word - 3) found) (after_load before.0.counter step.word found))
    × Meets before.0.role (step.word - 3) found × (found % 4 ≤ 2)

-- it looks at the word of a frame
abbrev pub Touches : Step (Unit {0}) → Seat → ℕ → Seat → Type 0
Touches step before found after =
    (after.0 ≡ view before.0.role (after_load before.0.counter step.word found)) × Meets before.0.role (step.word - 3) found

-- the pager looks at the leave word of E - 1
abbrev pub Settles : Step (Unit {0}) → Seat → ℕ → Seat → Type 0
Settles step before found after =
    after.0 ≡ view (role_settled before.0.role found) (after_load before.0.counter step.word found)

-- it stores 0 in that word
abbrev pub SetsBack : Step (Unit {0}) → Seat → ℕ → Seat → Type 0
SetsBack step before found after = after.0 ≡ view (role_set_back before.0.role) (after_step before.0.counter)

-- it swaps word 0 for that of the next epoch, with no entries
abbrev pub Tracks : Step (Unit {0}) → Seat → ℕ → Seat → Type 0
Tracks step before found after = after.0 ≡ view (role_tracked before.0.role (entries_in found)) (after_step before.0.counter)

-- it writes a frame's word, by a swap or a store
abbrev pub WritesFrame : Step (Unit {0}) → Seat → ℕ → Seat → Type 0
WritesFrame step before found after =
    after.0 ≡ view (role_wrote before.0.role (step.word - 3) step.first) (after_step before.0.counter)
