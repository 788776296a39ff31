-- What the entries before a place say of the processors. A place is the number of entries before it.
use Rattle.std.specs.Prelude.{ℕ, ◌==◌, ◌||◌, Bool, false, if◌then◌else◌, List, [], ◌∷◌, ◌++◌, Option, Some, None}
use Rattle.std.specs.Prelude.{length, drop, nat_lt}
use Rattle.sgx_rules.specs.declared.entries.Entry.{Entry}
use Rattle.sgx_rules.specs.declared.entries.Event.{Event}
use Rattle.sgx_rules.specs.declared.entries.Event.TheVariants.{Did}
use Rattle.sgx_types.specs.declared.names.Actor.{Actor}
use Rattle.sgx_types.specs.declared.names.Actor.TheVariants as actors
use Rattle.sgx_rules.specs.declared.entries.Action.TheVariants.{Enter, Resume, Exit, Aex, Fill}
use Rattle.sgx_rules.specs.Frames.{Content, content}

-- how a processor is inside an enclave: by which TCS page, and the frames of that page and of its state save page
pub record Seat : Type 0 where
  pub enclave : ℕ
  pub tcs : ℕ
  pub tcs_frame : ℕ
  pub ssa_frame : ℕ

-- what an event does to the mode of its processor
pub data Move : Type 0 where
  Enters : (seat : Seat) → Move
  Leaves : Move
  Keeps : Move

abbrev pub move_by : Event → Move
move_by (Did (Enter enclave tcs tf sf) answer) = Enters (record { enclave = enclave; tcs = tcs; tcs_frame = tf.0; ssa_frame = sf.0 })
move_by (Did (Resume enclave tcs tf sf) answer) = Enters (record { enclave = enclave; tcs = tcs; tcs_frame = tf.0; ssa_frame = sf.0 })
move_by (Did Exit answer) = Leaves
move_by (Did (Aex cause) answer) = Leaves
move_by _ = Keeps

-- a stay inside an enclave: the seat, the place of the entry that took it, and what its two frames held there
pub record Stay : Type 0 where
  pub seat : Seat
  pub entered : ℕ
  pub tcs_held : Content
  pub ssa_held : Content

abbrev pub stay_from : List Entry → Seat → Stay
stay_from past seat = record {
  seat = seat;
  entered = length past;
  tcs_held = content past seat.tcs_frame;
  ssa_held = content past seat.ssa_frame;
}

abbrev pub is_by : ℕ → Actor → Bool
is_by p (actors.Cpu q) = q.0 == p
is_by p _ = false

abbrev pub stay_after : Move → Bool → List Entry → Option Stay → Option Stay
stay_after (Enters seat) is_its_own past before = if is_its_own then Some (stay_from past seat) else before
stay_after Leaves is_its_own past before = if is_its_own then None else before
stay_after Keeps is_its_own past before = before

-- how a processor is inside, None where it is outside
abbrev pub stay : List Entry → ℕ → Option Stay
stay [] p = None
stay (e ∷ past) p = stay_after (move_by e.event) (is_by p e.actor) past (stay past p)

-- a translation without its permissions: a page of the enclave, and its frame
pub record BareTranslation : Type 0 where
  pub number : ℕ
  pub frame : ℕ

abbrev pub holds_number : List BareTranslation → ℕ → Bool
holds_number [] n = false
holds_number (x ∷ xs) n = (x.number == n) || holds_number xs n

-- at most 64 are kept: where one more came, the oldest goes
abbrev pub newest : List BareTranslation → List BareTranslation
newest xs = if nat_lt 64 (length xs) then drop 1 xs else xs

-- a page that is held already changes nothing
abbrev pub with_filled : List BareTranslation → BareTranslation → List BareTranslation
with_filled before x = if holds_number before x.number then before else newest (before ++ x ∷ [])

abbrev pub translations_after : Event → Bool → List BareTranslation → List BareTranslation
translations_after (Did (Enter enclave tcs tf sf) answer) is_its_own before = if is_its_own then [] else before
translations_after (Did (Resume enclave tcs tf sf) answer) is_its_own before = if is_its_own then [] else before
translations_after (Did Exit answer) is_its_own before = if is_its_own then [] else before
translations_after (Did (Aex cause) answer) is_its_own before = if is_its_own then [] else before
translations_after (Did (Fill number f) answer) is_its_own before =
    if is_its_own then with_filled before (record { number = number; frame = f.0 }) else before
translations_after _ is_its_own before = before

-- the translations that a processor holds since it entered, oldest first. A fill of one that is outside is collected too, and counts
-- for nothing: nothing asks for translations outside, and the next entry drops them
abbrev pub translations : List Entry → ℕ → List BareTranslation
translations [] p = []
translations (e ∷ past) p = translations_after e.event (is_by p e.actor) (translations past p)
