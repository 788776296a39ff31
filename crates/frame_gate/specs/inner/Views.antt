-- What the seats of a gate know, their views, and what each kind of step makes of a view. The pager is who blocks, tracks and
-- evicts; E is the present epoch, and E - 1 the one before.
use Rattle.std.specs.Prelude.{◌≡◌, ℕ, ◌+◌, ◌%◌, ◌<◌, ◌==◌, if◌then◌else◌, List, [], ◌∷◌, ◌++◌, Bool}
use Rattle.std.specs.Prelude.{true, false, replicate, slice_index_or, slice_set, Option, Some, None}
use Rattle.frame_gate.specs.declared.view.View.{View}
use Rattle.frame_gate.specs.declared.view.Counter.{Counter}
use Rattle.frame_gate.specs.declared.view.Ledger.{Ledger}
use Rattle.frame_gate.specs.declared.view.Visit.{Visit}
use Rattle.frame_gate.specs.declared.view.Pair.{Pair}
use Rattle.frame_gate.specs.declared.view.Written.{Written}
use Rattle.frame_gate.specs.declared.view.Role.{Role}
use Rattle.frame_gate.specs.declared.view.Role.TheVariants.{Pager, Processor}
use Rattle.frame_gate.specs.inner.Words.{epoch_word, generation_in}

abbrev pub view : Role → Counter → View
view role counter = record { role = role; counter = counter }

-- ---- the steps that a seat has made

abbrev pub no_step : Counter
no_step = record { steps = 0; loads = 0; word = 0; found = 0 }

-- after a step that is no load
abbrev pub after_step : Counter → Counter
after_step c = record { steps = c.steps + 1; loads = c.loads; word = c.word; found = c.found }

-- after a load of this word, which found this
abbrev pub after_load : Counter → ℕ → ℕ → Counter
after_load c word found = record { steps = c.steps + 1; loads = c.loads + 1; word = word; found = found }

-- ---- what a processor knows

-- how often it has entered, and its epoch where it is inside
abbrev pub visit : ℕ → Option ℕ → Visit
visit entries epoch = record { entries = entries; epoch = epoch }

-- the frame was found held, with this generation
abbrev pub pair : ℕ → ℕ → Pair
pair f generation = record { frame = f; generation = generation }

-- the generation of a frame that is held, by the pairs
abbrev pub generation_of : List Pair → ℕ → Option ℕ
generation_of [] f = None
generation_of (q ∷ qs) f = if q.frame == f then Some q.generation else generation_of qs f

-- the pairs after a look at the frame f, which found its word: one more where that is held, if there was none of f
abbrev pub put : List Pair → Option ℕ → ℕ → ℕ → List Pair
put ps (Some generation) f found = ps
put ps None f found = if found % 4 == 1 then ps ++ pair f (generation_in found) ∷ [] else ps

abbrev pub filled : List Pair → ℕ → ℕ → List Pair
filled ps f found = put ps (generation_of ps f) f found

-- ---- what the pager knows

-- seats: how many processor seats were split from its own; kept: the entries of E - 1; is_empty: E - 1 is known to be empty;
-- is_set_back: the leave word of E - 1 was set back to 0
abbrev pub ledger : ℕ → ℕ → ℕ → Bool → Bool → Ledger
ledger seats epoch kept is_empty is_set_back =
    record { seats = seats; epoch = epoch; kept = kept; is_empty = is_empty; is_set_back = is_set_back }

-- E is 1. Nobody was ever inside at 0
abbrev pub start : ℕ → Ledger
start seats = ledger seats 1 0 true true

abbrev pub emptied : Ledger → Ledger
emptied l = ledger l.seats l.epoch l.kept true l.is_set_back

-- E - 1 is empty where as many have left as entered
abbrev pub settled : Ledger → ℕ → Ledger
settled l leaves = if leaves == l.kept then emptied l else l

abbrev pub set_back : Ledger → Ledger
set_back l = ledger l.seats l.epoch l.kept l.is_empty true

-- the next epoch has begun. So many had entered in the last one
abbrev pub tracked : Ledger → ℕ → Ledger
tracked l entries = ledger l.seats (l.epoch + 1) entries false false

-- the word that it last wrote for a frame, and the epoch at which it blocked the frame, where that is blocked
abbrev pub written : ℕ → Option ℕ → Written
written word blocked = record { word = word; blocked = blocked }

-- of a frame at the start: it is free, with generation 0
abbrev pub untouched : Written
untouched = written 0 None

abbrev pub written_of : List Written → ℕ → Written
written_of frames f = slice_index_or frames f untouched

abbrev pub first_view : ℕ → View
first_view frames = view (Pager (start 0) (replicate frames untouched)) no_step

-- the words of a gate with so many frames, where E is 1, nobody is inside and each frame is untouched
abbrev pub first_words : ℕ → List ℕ
first_words frames = slice_set (replicate (3 + frames) 0) 0 (epoch_word 1 0)

-- the frame is drained: it was blocked at b, a later epoch has begun, and nobody is inside any more that entered at b or before
pub record IsDrained (l : Ledger) (frame : Written) (b : ℕ) : Type 0 where
  pub blocked : frame.blocked ≡ Some b
  pub tracked : b < l.epoch
  pub empty : b + 1 ≡ l.epoch → l.is_empty ≡ true

-- ---- what a step makes of a role. A role that does not take such a step stays

abbrev pub role_entered : Role → ℕ → Role
role_entered (Pager l fs) epoch = Pager l fs
role_entered (Processor p ps) epoch = Processor (visit (p.entries + 1) (Some epoch)) []

abbrev pub role_left : Role → Role
role_left (Pager l fs) = Pager l fs
role_left (Processor p ps) = Processor (visit p.entries None) []

abbrev pub role_filled : Role → ℕ → ℕ → Role
role_filled (Pager l fs) f found = Pager l fs
role_filled (Processor p ps) f found = Processor p (filled ps f found)

abbrev pub role_settled : Role → ℕ → Role
role_settled (Pager l fs) leaves = Pager (settled l leaves) fs
role_settled (Processor p ps) leaves = Processor p ps

abbrev pub role_set_back : Role → Role
role_set_back (Pager l fs) = Pager (set_back l) fs
role_set_back (Processor p ps) = Processor p ps

abbrev pub role_tracked : Role → ℕ → Role
role_tracked (Pager l fs) entries = Pager (tracked l entries) fs
role_tracked (Processor p ps) entries = Processor p ps

-- it is blocked where the word says so, at the present epoch
abbrev pub blocked_by : ℕ → ℕ → Option ℕ
blocked_by epoch word = if word % 4 == 2 then Some epoch else None

abbrev pub role_wrote : Role → ℕ → ℕ → Role
role_wrote (Pager l fs) f word = Pager l (slice_set fs f (written word (blocked_by l.epoch word)))
role_wrote (Processor p ps) f word = Processor p ps

-- one more processor seat is split from the pager's
abbrev pub role_split : Role → Role
role_split (Pager l fs) = Pager (ledger (l.seats + 1) l.epoch l.kept l.is_empty l.is_set_back) fs
role_split (Processor p ps) = Processor p ps

abbrev pub newcomer : View
newcomer = view (Processor (visit 0 None) []) no_step

-- the generation that a role holds of a frame
abbrev pub role_holds : Role → ℕ → Option ℕ
role_holds (Pager l fs) f = None
role_holds (Processor p ps) f = generation_of ps f
