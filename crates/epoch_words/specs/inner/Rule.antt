-- The rule of the shared words: one seat is the hardware seat, each word is what that seat knows of its enclave, and what a
-- pass has seen is not ahead of the words.
use Rattle.std.specs.Prelude.{◌≡◌, ℕ, List, true, false, length, map, slice_index_or, slice_set}
use mathlib.Core.Option.{some}
use lib.ListN.{get_elem?}
use Rattle.atomic_table.specs.Table.{State, Me, Step}
use Rattle.epoch_words.specs.declared.seen.Seen.{Seen}
use Rattle.epoch_words.specs.declared.rule.View.{View}
use Rattle.epoch_words.specs.inner.Seen.{seen, word_of, seen_in, IsLawful, Changes, IsNotAhead}

-- the words and the views of all seats, of which none holds anything
abbrev pub Shared : Type 0
Shared = State (Unit {0}) View

abbrev pub Seat : Type 0
Seat = Me (Unit {0}) View

-- what is seen of the enclave with word i
abbrev pub at : List Seen → ℕ → Seen
at all i = slice_index_or all i (seen 0 0 0)

-- the view of the hardware seat, and of a pass
abbrev pub hardware : List Seen → View
hardware all = record { is_hardware = true; seen = all }

abbrev pub pass : List Seen → View
pass all = record { is_hardware = false; seen = all }

-- what holds of the view of one seat
pub record SeatFits (owner : ℕ) (now : List Seen) (seat : ℕ) (v : View) : Type 0 where
  -- no other seat is the hardware seat
  pub alone : v.is_hardware ≡ true → seat ≡ owner
  -- it has seen something of each enclave
  pub wide : length v.seen ≡ length now
  -- and nothing of it is ahead
  pub not_ahead : (i : ℕ) → IsNotAhead (at v.seen i) (at now i)

pub record AreWordsKept (table : Shared) : Type 0 where
  -- the hardware seat, and what it knows
  pub owner : ℕ
  pub now : List Seen
  pub there : get_elem? table.views owner ≡ some (hardware now)
  pub lawful : (i : ℕ) → IsLawful (at now i)
  -- that is what the words say
  pub words : table.words ≡ map word_of now
  pub each : (seat : ℕ) (v : View) → get_elem? table.views seat ≡ some v → SeatFits owner now seat v

-- ---- the kinds of step

-- the hardware seat stores what a processor's entry or exit or a track makes of a word
abbrev pub Writes : Step (Unit {0}) → Seat → ℕ → Seat → Type 0
Writes step before stored after =
    Changes (at before.0.seen step.word) (seen_in stored) × (after.0 ≡ hardware (slice_set before.0.seen step.word (seen_in stored)))

-- a pass knows what it found, which is not behind what it knew
abbrev pub Observes : Step (Unit {0}) → Seat → ℕ → Seat → Type 0
Observes step before found after =
    IsLawful (seen_in found) × IsNotAhead (at before.0.seen step.word) (seen_in found)
    × (after.0 ≡ pass (slice_set before.0.seen step.word (seen_in found)))
