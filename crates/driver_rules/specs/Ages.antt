-- The rules Age and Kick: what the reclaimer does next.
use Rattle.std.specs.Prelude.{ℕ, ◌≡◌, Bool, true, false, List, [], ◌∷◌, Option, Some, None}
use Rattle.sgx_rules.specs.declared.entries.Entry.{Entry}
use Rattle.sgx_rules.specs.declared.entries.Event.{Event}
use Rattle.sgx_rules.specs.declared.entries.Event.TheVariants.{Age, Did, Kick, Refused}
use Rattle.sgx_rules.specs.declared.entries.Look.{Look}
use Rattle.sgx_types.specs.declared.names.Actor.{Actor}
use Rattle.sgx_rules.specs.declared.entries.Action.TheVariants.{Block, Ewb, EwbStart, Track}
use Rattle.sgx_types.specs.declared.names.Page.{Page}
use Rattle.job_grammar.specs.Jobs.{JobView}
use Rattle.driver_rules.specs.Dues.{is_look, IsKickOf}
use Rattle.driver_rules.specs.Holds.{is_held}
use Rattle.driver_rules.specs.Passes.{Aside, aside, Between, Blocking, First, Form, is_aside, IsGoing, IsToGo, keepers, Kicks}
use Rattle.driver_rules.specs.Passes.{NoneAside, Pass, pass, Scan, Sealing, Second, Third, ToKick, ToTrack, Tries}
use Rattle.driver_rules.specs.Places.{active, is_young, Leaving, place}
use Rattle.driver_rules.specs.Spares.{due_with, Outs, outs, outs_kept}
use Rattle.sgx_rules.specs.declared.entries.Look.TheVariants as looks
use Rattle.sgx_types.specs.declared.names.Actor.TheVariants as actors
use Rattle.sgx_rules.specs.declared.refusals.Refusal.TheVariants as why

abbrev pub head_of : List Page → Option Page
head_of [] = None
head_of (g ∷ gs) = Some g

-- ---- Age: which page is due

-- the head of the list is looked at, and what is told of it is so
pub record IsLookAt (j : JobView) (past : List Entry) (page : Page) (look : Look) : Type 0 where
  pub head : head_of (active past) ≡ Some page
  pub told : is_look (is_held j past page) (is_young past page) look ≡ true

-- the page is leaving from this frame
abbrev pub IsFrame : List Entry → Page → ℕ → Type 0
IsFrame past g f = place past g ≡ Leaving f

-- a block of the frame of the first page that is not blocked yet
abbrev pub IsNextBlock : List Entry → List Page → ℕ → Type 0
IsNextBlock past [] f = ⊥
IsNextBlock past (g ∷ gs) f = IsFrame past g f

-- within the tries of a page, instructions on its frame, tracks and kicks
abbrev pub IsInTries : List Entry → Page → Event → Type 0
IsInTries past g (Did (EwbStart f slot) answer) = IsFrame past g f.0
IsInTries past g (Refused (EwbStart f slot) refusal) = IsFrame past g f.0
IsInTries past g (Did (Ewb f) answer) = IsFrame past g f.0
IsInTries past g (Refused (Ewb f) refusal) = IsFrame past g f.0
IsInTries past g (Did (Track enclave) answer) = Unit {0}
IsInTries past g (Refused (Track enclave) refusal) = Unit {0}
IsInTries past g (Kick cpu) = Unit {0}
IsInTries past g _ = ⊥

-- a pass is begun by who works; the looks come first, then the blocks in their order, then the tries of each page
abbrev pub InPass : List Entry → Pass → Event → Type 0
InPass past (Between works) (Age page look) = works ≡ true
InPass past (Scan left taken) (Age page look) = Unit {0}
InPass past (Blocking due taken) (Did (Block f) answer) = IsNextBlock past due f.0
InPass past (Tries g rest form) event = IsInTries past g event
InPass past _ event = ⊥

abbrev pub LookOf : JobView → List Entry → Event → Type 0
LookOf j past (Age page look) = IsLookAt j past page look
LookOf j past _ = Unit {0}

pub record IsOfPass (j : JobView) (past : List Entry) (event : Event) : Type 0 where
  -- a look names the head of the list, and tells of it what is so
  pub look : LookOf j past event
  -- the entry is one that stands at this place of a pass, and is of the page that is due there
  pub in_pass : InPass past (pass j past) event

-- ---- .. and which page is due before the pass goes on

-- a pass goes on; or this page is due; or it was taken, and goes out next; or its write-out is to be ended
pub data Ahead : Type 0 where
  GoesOn : Ahead
  Looks : (page : Page) → Ahead
  TriesNext : (page : Page) → Ahead
  EndsNext : (page : Page) → Ahead

abbrev pub ahead_due : Option Page → Ahead
ahead_due None = GoesOn
ahead_due (Some g) = Looks g

abbrev pub ahead_by : Aside → Option Page → Ahead
ahead_by NoneAside due = ahead_due due
ahead_by (IsToGo g) due = TriesNext g
ahead_by (IsGoing g) due = EndsNext g

abbrev pub ahead : JobView → List Entry → Outs → Ahead
ahead j past out = ahead_by (aside past) (due_with j past out)

-- the store has room for the record of a page that is due, which is taken, or it has none
abbrev pub IsLookAhead : Page → Event → Type 0
IsLookAhead g (Age page looks.NoRoom) = page ≡ g
IsLookAhead g (Age page looks.Taken) = page ≡ g
IsLookAhead g event = ⊥

-- it goes out at once, unless the versions are used up
abbrev pub IsTryAhead : List Entry → Page → Event → Type 0
IsTryAhead past g (Did (EwbStart f slot) answer) = IsFrame past g f.0
IsTryAhead past g (Refused (EwbStart f slot) why.VersionSpent) = IsFrame past g f.0
IsTryAhead past g event = ⊥

abbrev pub IsEndAhead : List Entry → Page → Event → Type 0
IsEndAhead past g (Did (Ewb f) answer) = IsFrame past g f.0
IsEndAhead past g event = ⊥

abbrev pub IsAhead : JobView → List Entry → Ahead → Event → Type 0
IsAhead j past GoesOn event = IsOfPass j past event
IsAhead j past (Looks g) event = IsLookAhead g event
IsAhead j past (TriesNext g) event = IsTryAhead past g event
IsAhead j past (EndsNext g) event = IsEndAhead past g event

-- the rule is on the reclaimer alone
abbrev pub AgeOf : JobView → List Entry → Outs → Actor → Event → Type 0
AgeOf j past out actors.Reclaimer event = IsAhead j past (ahead j past out) event
AgeOf j past out _ event = Unit {0}

-- by a test of which slots are out
abbrev pub AgeRuleBy : JobView → List Entry → Outs → Entry → Type 0
AgeRuleBy j past out e = AgeOf j past out e.actor e.event

abbrev pub AgeRule : JobView → List Entry → Entry → Type 0
AgeRule j past e = AgeRuleBy j past (outs j past) e

-- .. and as a driver keeps it whatever a store gives, by the slots that it keeps as out
abbrev pub KeptAgeRule : JobView → List Entry → Entry → Type 0
KeptAgeRule j past e = AgeRuleBy j past (outs_kept j past) e

-- ---- Kick: what stands within the tries of one page

-- a start, or the refusal at which the run ends; or a refusal since the slot is in use, behind which the try is made again
abbrev pub IsLastTry : Event → Type 0
IsLastTry (Did (EwbStart f slot) answer) = Unit {0}
IsLastTry (Refused (EwbStart f slot) why.VersionSpent) = Unit {0}
IsLastTry (Refused (EwbStart f slot) (why.SlotOccupied version)) = Unit {0}
IsLastTry _ = ⊥

-- .. or a processor keeps the page back, or the enclave was not tracked
abbrev pub IsTry : Event → Type 0
IsTry (Refused (EwbStart f slot) (why.NotTracked epoch older)) = Unit {0}
IsTry event = IsLastTry event

abbrev pub IsTrackOf : ℕ → Event → Type 0
IsTrackOf enclave (Did (Track e) answer) = e ≡ enclave
IsTrackOf enclave (Refused (Track e) why.EpochSpent) = e ≡ enclave
IsTrackOf enclave _ = ⊥

-- the kicks begin with the first that keeps the page back; where none does, there are none, and the last try comes at once
abbrev pub IsKickOrTry : List ℕ → Event → Type 0
IsKickOrTry [] event = IsLastTry event
IsKickOrTry (p ∷ ps) event = IsKickOf (p ∷ ps) event

abbrev pub IsEnd : Event → Type 0
IsEnd (Did (Ewb f) answer) = Unit {0}
IsEnd _ = ⊥

-- three tries at most: a track behind the first refusal, kicks behind the second
abbrev pub InForm : List Entry → Page → Form → Event → Type 0
InForm past g First event = IsTry event
InForm past g ToTrack event = IsTrackOf g.enclave event
InForm past g Second event = IsTry event
InForm past g ToKick event = IsKickOrTry (keepers past g) event
InForm past g (Kicks rest) event = IsKickOf rest event
InForm past g Third event = IsLastTry event
InForm past g Sealing event = IsEnd event

-- entries for pages that are due besides are set aside
abbrev pub FormUnless : List Entry → Bool → Page → Form → Event → Type 0
FormUnless past true g form event = Unit {0}
FormUnless past false g form event = InForm past g form event

-- the rule is on the reclaimer's entries ..
abbrev pub FormOf : List Entry → Pass → Actor → Event → Type 0
FormOf past (Tries g rest form) actors.Reclaimer event = FormUnless past (is_aside (aside past) event) g form event
FormOf past _ _ event = Unit {0}

-- .. but that between two kicks nobody else makes an entry
abbrev pub IsBeside : Form → Type 0
IsBeside (Kicks rest) = ⊥
IsBeside _ = Unit {0}

abbrev pub BesideOf : Pass → Actor → Type 0
BesideOf at actors.Reclaimer = Unit {0}
BesideOf (Tries g rest form) _ = IsBeside form
BesideOf _ _ = Unit {0}

pub record KickRule (j : JobView) (past : List Entry) (e : Entry) : Type 0 where
  -- the tries of a page go on in one of the three forms
  pub form : FormOf past (pass j past) e.actor e.event
  -- the kicks of a page stand next to each other
  pub beside : BesideOf (pass j past) e.actor
