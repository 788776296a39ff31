-- What contracts see of a gate's seats, and what each call makes of it.
use Rattle.std.specs.Prelude.{◌≡◌, ◌≢◌, ℕ, ◌+◌, ◌-◌, ◌<◌, ◌≤◌, ◌⊎◌, ◌==◌, Bool, true, false}
use Rattle.std.specs.Prelude.{if◌then◌else◌, List, [], replicate, slice_set, Option, None, Some}
use Rattle.frame_gate.specs.declared.view.Counter.{Counter}
use Rattle.frame_gate.specs.declared.view.Ledger.{Ledger}
use Rattle.frame_gate.specs.declared.view.Visit.{Visit}
use Rattle.frame_gate.specs.declared.view.Pair.{Pair}
use Rattle.frame_gate.specs.declared.view.Written.{Written}
use Rattle.frame_gate.specs.declared.refusals.TrackRefusal.{TrackRefusal}
use Rattle.frame_gate.specs.declared.refusals.EvictRefusal.{EvictRefusal}
use Rattle.frame_gate.specs.declared.refusals.TrackRefusal.TheVariants as track
use Rattle.frame_gate.specs.declared.refusals.EvictRefusal.TheVariants as evict
use Rattle.frame_gate.specs.declared.limits.TheConstants.{LAST_EPOCH}
use Rattle.frame_gate.specs.inner.Words.{TableId, leave_word, frame_word, free_word, held_word, generation_in, IsFree, IsBlocked}
use Rattle.frame_gate.specs.inner.Views.{no_step, after_step, after_load, visit, generation_of, filled}
use Rattle.frame_gate.specs.inner.Views.{start, emptied, tracked, written, untouched, written_of, IsDrained}
use Rattle.frame_gate.specs.inner.Rule.{IsMarked}

-- of a processor's seat: its gate, its visit, the frames that it holds and its steps
pub record ProcKnown : Type 0 where
  pub gate : TableId
  pub visit : Visit
  pub pairs : List Pair
  pub counter : Counter

-- of the pager's: its gate, its ledger, what it has written for each frame and its steps
pub record PagerKnown : Type 0 where
  pub gate : TableId
  pub ledger : Ledger
  pub frames : List Written
  pub counter : Counter

abbrev pub newcomer_of : TableId → ProcKnown
newcomer_of gate = record { gate = gate; visit = visit 0 None; pairs = []; counter = no_step }

abbrev pub first_pager : TableId → ℕ → ℕ → PagerKnown
first_pager gate seats frames = record { gate = gate; ledger = start seats; frames = replicate frames untouched; counter = no_step }

-- a call has made at most so many steps on words
abbrev pub StepsAtMost : ℕ → Counter → Counter → Type 0
StepsAtMost most before after = after.steps ≤ before.steps + most

-- ---- processors

abbrev pub IsOutside : ProcKnown → Type 0
IsOutside p = p.visit.epoch ≡ None

abbrev pub IsProcInside : ProcKnown → Type 0
IsProcInside p = p.visit.epoch ≢ None

abbrev pub HoldsFrame : ProcKnown → ℕ → Type 0
HoldsFrame p f = generation_of p.pairs f ≢ None

-- it entered in this epoch, and holds nothing yet
abbrev pub entered : ProcKnown → ℕ → ProcKnown
entered p epoch = record
    { gate = p.gate; visit = visit (p.visit.entries + 1) (Some epoch); pairs = []; counter = after_step p.counter }

-- it left, and what it held is dropped
abbrev pub outside : ProcKnown → ProcKnown
outside p = record { gate = p.gate; visit = visit p.visit.entries None; pairs = []; counter = after_step p.counter }

-- it looked at a frame's word, found this, and has these pairs
abbrev pub looked_at : ProcKnown → ℕ → ℕ → List Pair → ProcKnown
looked_at p f found pairs =
    record { gate = p.gate; visit = p.visit; pairs = pairs; counter = after_load p.counter (frame_word f) found }

-- the frame's word was held with this generation, and the seat holds the frame with it
abbrev pub Filled : ProcKnown → ℕ → ℕ → ProcKnown → Type 0
Filled p f generation q =
    (q ≡ looked_at p f (held_word generation) (filled p.pairs f (held_word generation)))
    × (generation_of q.pairs f ≡ Some generation)

-- the frame's word, which was loaded, was free or blocked, and the seat holds what it held
abbrev pub RefusedFill : ProcKnown → ℕ → ℕ → ProcKnown → Type 0
RefusedFill p f word q = (IsFree word ⊎ IsBlocked word) × (q ≡ looked_at p f word p.pairs)

-- the frame's word, which was loaded, has the generation that the seat holds
abbrev pub Touched : ProcKnown → ℕ → ℕ → ProcKnown → Type 0
Touched p f generation q =
    (generation_of p.pairs f ≡ Some generation)
    × ((word : ℕ) × (generation_in word ≡ generation) × (q ≡ looked_at p f word p.pairs))

-- ---- the pager

-- the word that a frame has
abbrev pub word_now : PagerKnown → ℕ → ℕ
word_now p f = (written_of p.frames f).word

abbrev pub generation_now : PagerKnown → ℕ → ℕ
generation_now p f = generation_in (word_now p f)

-- the frame is blocked, and was so at this epoch
abbrev pub IsBlockedAt : PagerKnown → ℕ → ℕ → Type 0
IsBlockedAt p f b = (written_of p.frames f).blocked ≡ Some b

-- each frame's word is blocked exactly where the pager has blocked it
abbrev pub AreMarked : ℕ → List Written → Type 0
AreMarked epoch frames = (f : ℕ) → IsMarked epoch (written_of frames f).word (written_of frames f).blocked

-- it wrote this word for a frame, by one step
abbrev pub with_frame : PagerKnown → ℕ → ℕ → Option ℕ → PagerKnown
with_frame p f word blocked = record
    { gate = p.gate; ledger = p.ledger; frames = slice_set p.frames f (written word blocked); counter = after_step p.counter }

-- its steps after a load of the leave word of E - 1, which found this
abbrev pub after_look : PagerKnown → ℕ → Counter
after_look p found = after_load p.counter (leave_word (p.ledger.epoch - 1)) found

-- its steps after it knows that E - 1 is empty: none where that was known
abbrev pub after_settle : PagerKnown → Counter
after_settle p = if p.ledger.is_empty then p.counter else after_look p p.ledger.kept

-- it knows that E - 1 is empty
abbrev pub settled_pager : PagerKnown → PagerKnown
settled_pager p = record { gate = p.gate; ledger = emptied p.ledger; frames = p.frames; counter = after_settle p }

-- somebody may be inside that entered in E - 1: its leave word, which was loaded, is not the kept number of entries
abbrev pub RefusedOlder : PagerKnown → ℕ → PagerKnown → Type 0
RefusedOlder p word q =
    (p.ledger.is_empty ≡ false) × (word ≢ p.ledger.kept)
    × (q ≡ record { gate = p.gate; ledger = p.ledger; frames = p.frames; counter = after_look p word })

-- the next epoch has begun: its leave word was set back, and word 0 was swapped
abbrev pub next_pager : PagerKnown → ℕ → Counter → PagerKnown
next_pager p entries counter =
    record { gate = p.gate; ledger = tracked p.ledger entries; frames = p.frames; counter = after_step (after_step counter) }

abbrev pub Tracked : PagerKnown → ℕ → PagerKnown → Type 0
Tracked p epoch q =
    (p.ledger.epoch < LAST_EPOCH) × (epoch ≡ p.ledger.epoch + 1)
    × ((entries : ℕ) × (q ≡ next_pager p entries (after_settle p)))

abbrev pub RefusedTrack : PagerKnown → TrackRefusal → PagerKnown → Type 0
RefusedTrack p (track.Older word) q = RefusedOlder p word q
RefusedTrack p (track.EpochSpent epoch) q = (epoch ≡ LAST_EPOCH) × (p.ledger.epoch ≡ LAST_EPOCH) × (q ≡ settled_pager p)

-- it knows that E - 1 is empty, where that was needed
abbrev pub settled_if : Bool → PagerKnown → PagerKnown
settled_if true p = settled_pager p
settled_if false p = p

-- a frame that was blocked at b is free. Only where b is E - 1 it was needed that E - 1 is empty
abbrev pub Evicted : PagerKnown → ℕ → PagerKnown → Type 0
Evicted p f q =
    (b : ℕ) × IsBlockedAt p f b × (b < p.ledger.epoch)
    × (q ≡ with_frame (settled_if (b + 1 == p.ledger.epoch) p) f (free_word (generation_now p f)) None)

abbrev pub RefusedEvict : PagerKnown → ℕ → EvictRefusal → PagerKnown → Type 0
RefusedEvict p f (evict.NoTrack epoch) q = (epoch ≡ p.ledger.epoch) × IsBlockedAt p f epoch × (q ≡ p)
RefusedEvict p f (evict.Older word) q =
    (b : ℕ) × IsBlockedAt p f b × (b + 1 ≡ p.ledger.epoch) × RefusedOlder p word q

-- the frame is drained through some epoch
abbrev pub HasDrained : PagerKnown → ℕ → Type 0
HasDrained p f = (b : ℕ) × IsDrained p.ledger (written_of p.frames f) b
