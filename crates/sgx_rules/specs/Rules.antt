-- The rules that every trace keeps, whatever driver made it. A rule on an entry is a fact of the entries before it and
-- of the entry; a rule on every place is a fact of the entries before the place, and is asked at the end too.
use Rattle.std.specs.Prelude.{ℕ, ◌≡◌, ◌<◌, ◌/◌, Bool, true, false, List, [], ◌∷◌, Option, Some, None, IfSome}
use Rattle.std.specs.List.{All}
use Rattle.sgx_rules.specs.declared.entries.Entry.{Entry}
use Rattle.sgx_rules.specs.declared.entries.Event.{Event}
use Rattle.sgx_rules.specs.declared.entries.Event.TheVariants.{Did, Refused, Age, Kick, Bus}
use Rattle.sgx_types.specs.declared.names.Actor.{Actor}
use Rattle.sgx_types.specs.declared.names.Actor.TheVariants as actors
use Rattle.sgx_rules.specs.declared.entries.Action.{Action}
use Rattle.sgx_rules.specs.declared.entries.Action.TheVariants.{Epa, Create, Add, Extend, Init, Enter, Resume, Exit, Aex, Fill}
use Rattle.sgx_rules.specs.declared.entries.Action.TheVariants.{Load, Store}
use Rattle.sgx_rules.specs.declared.entries.Action.TheVariants.{Xadd, Set, Plus, Pf, OutLoad, OutStore, Block, Track, EwbStart}
use Rattle.sgx_rules.specs.declared.entries.Action.TheVariants.{Ewb}
use Rattle.sgx_rules.specs.declared.entries.Action.TheVariants.{EldStart, Eld}
use Rattle.sgx_rules.specs.declared.entries.Answer.{Answer}
use Rattle.sgx_rules.specs.declared.entries.Answer.TheVariants as answers
use Rattle.sgx_rules.specs.declared.entries.PfWhy.{PfWhy}
use Rattle.sgx_types.specs.declared.names.Page.{Page}
use Rattle.sgx_rules.specs.declared.refusals.Refusal.{Refusal}
use Rattle.sgx_rules.specs.declared.refusals.Refusal.TheVariants as why
use Rattle.sgx_rules.specs.Ends.{EndsOut, IsBack, IsNotBack}
use Rattle.sgx_types.specs.Pages.{page_at}
use Rattle.sgx_rules.specs.Frames.{Content, Free, SecsOf, Holds, content, is_child, is_sealing, is_page, stands, vas_made}
use Rattle.sgx_types.specs.Making.{Making}
use Rattle.sgx_rules.specs.Processors.{Stay, stay, BareTranslation, holds_number, translations}
use Rattle.sgx_types.specs.Cases.{first_of_row}
use Rattle.sgx_rules.specs.Eviction.{is_drained}
use Rattle.sgx_rules.specs.Slots.{next_version, version_at}
use Rattle.sgx_rules.specs.Starts.{Start, open_start}
use Rattle.sgx_rules.specs.Flat.{FlatMemory, flat, accepts, flat_answer, is_visible}
use Rattle.sgx_rules.specs.Sights.{row_at}

-- a rule on entries holds at each of them
abbrev pub Along : (List Entry → Entry → Type 0) → List Entry → Type 0
Along rule [] = Unit {0}
Along rule (e ∷ past) = rule past e × Along rule past

-- a fact of the entries before a place holds at each place, the end among them
abbrev pub AtEachPlace : (List Entry → Type 0) → List Entry → Type 0
AtEachPlace P [] = P []
AtEachPlace P (e ∷ past) = P (e ∷ past) × AtEachPlace P past

-- ---- Refusal: an instruction is done exactly where no case of its row holds, and else refused by the first that holds

-- the form of answer that each row gives. A version array page tells its number, a start of ELDU the version in its slot, and a commit
-- the page of its start
abbrev pub HasForm : List Entry → Action → Answer → Type 0
HasForm past (Epa f) answer = answer ≡ answers.Va (vas_made past)
HasForm past (Create enclave f base size) answer = answer ≡ answers.Plain
HasForm past (Add enclave number f kind perm init) answer = answer ≡ answers.Plain
HasForm past (Extend f chunk) answer = answer ≡ answers.Plain
HasForm past (Init enclave expect) answer = (digest : List ℕ) × (answer ≡ answers.Hash digest)
HasForm past (Enter enclave tcs tf sf) answer = (cssa : ℕ) × (answer ≡ answers.Cssa cssa)
HasForm past (Resume enclave tcs tf sf) answer = (acc : ℕ) × (answer ≡ answers.Value acc)
HasForm past Exit answer = answer ≡ answers.Plain
HasForm past (Aex cause) answer = answer ≡ answers.Plain
HasForm past (Fill number f) answer = answer ≡ answers.Plain
HasForm past (Load off) answer = (word : ℕ) × (answer ≡ answers.Value word)
HasForm past (Store off value) answer = answer ≡ answers.Plain
HasForm past (Xadd off value) answer = (word : ℕ) × (answer ≡ answers.Value word)
HasForm past (Set value) answer = answer ≡ answers.Plain
HasForm past (Plus value) answer = (acc : ℕ) × (answer ≡ answers.Value acc)
HasForm past (Pf op off) answer = (fault : PfWhy) × (answer ≡ answers.Pf fault)
HasForm past (OutLoad enclave off) answer = (word : ℕ) × (answer ≡ answers.Value word)
HasForm past (OutStore enclave off value) answer = answer ≡ answers.Plain
HasForm past (Block f) answer = answer ≡ answers.Plain
HasForm past (Track enclave) answer = answer ≡ answers.Plain
HasForm past (EwbStart f slot) answer = (version : ℕ) × (answer ≡ answers.Version version)
HasForm past (Ewb f) answer = EndsOut past f.0 answer
HasForm past (EldStart f page slot) answer = answer ≡ answers.Version (version_at past slot)
HasForm past (Eld f) answer = IsBack past f.0 answer

-- whether an expected digest differs only the measurement can tell
abbrev pub case_of : Action → Refusal → Option Refusal
case_of (Init enclave expect) (why.BadMeasure made) = None
case_of action refusal = Some refusal

-- the commit of EWB is never refused, and that of ELDU only for its record
abbrev pub RefusalRule : Making → List Entry → Entry → Type 0
RefusalRule k past e = by_event e.event
  where
    by_event : Event → Type 0
    by_event (Did action answer) = (first_of_row (row_at k past e.actor action) ≡ None) × HasForm past action answer
    by_event (Refused (Ewb f) refusal) = ⊥
    by_event (Refused (Eld f) refusal) = IsNotBack past f.0 refusal
    by_event (Refused action refusal) = first_of_row (row_at k past e.actor action) ≡ case_of action refusal
    by_event (Age page look) = Unit {0}
    by_event (Kick cpu) = Unit {0}
    by_event (Bus page why) = Unit {0}

-- ---- Flat: each instruction that programs see answers as memory that is never evicted

-- the digest of `init` counts as no answer: the measurement decides it
abbrev pub seen_answer : Action → Answer → Answer
seen_answer (Init enclave expect) (answers.Hash digest) = answers.Plain
seen_answer action answer = answer

pub record AnswersAsFlat (m : FlatMemory) (actor : Actor) (action : Action) (answer : Answer) : Type 0 where
  pub taken : accepts m actor action ≡ true
  pub same : seen_answer action answer ≡ flat_answer m actor action

abbrev pub FlatRule : List Entry → Entry → Type 0
FlatRule past e = by_event e.event
  where
    by_event : Event → Type 0
    by_event (Did action answer) = is_visible action ≡ true → AnswersAsFlat (flat past) e.actor action answer
    by_event _ = Unit {0}

-- ---- Fits: no frame beyond the EPC, no frame twice, no page twice

-- the frames that an action names are below the number of frames
abbrev pub NamesFrames : ℕ → Action → Type 0
NamesFrames frames (Epa f) = f.0 < frames
NamesFrames frames (Create enclave f base size) = f.0 < frames
NamesFrames frames (Add enclave number f kind perm init) = f.0 < frames
NamesFrames frames (Extend f chunk) = f.0 < frames
NamesFrames frames (Enter enclave tcs tf sf) = (tf.0 < frames) × (sf.0 < frames)
NamesFrames frames (Resume enclave tcs tf sf) = (tf.0 < frames) × (sf.0 < frames)
NamesFrames frames (Fill number f) = f.0 < frames
NamesFrames frames (Block f) = f.0 < frames
NamesFrames frames (EwbStart f slot) = (f.0 < frames) × (slot.frame.0 < frames)
NamesFrames frames (Ewb f) = f.0 < frames
NamesFrames frames (EldStart f page slot) = (f.0 < frames) × (slot.frame.0 < frames)
NamesFrames frames (Eld f) = f.0 < frames
NamesFrames frames _ = Unit {0}

-- what takes a frame takes a free one
abbrev pub TakesFree : List Entry → Action → Type 0
TakesFree past (Epa f) = content past f.0 ≡ Free
TakesFree past (Create enclave f base size) = content past f.0 ≡ Free
TakesFree past (Add enclave number f kind perm init) = content past f.0 ≡ Free
TakesFree past (EldStart f page slot) = content past f.0 ≡ Free
TakesFree past _ = Unit {0}

abbrev pub FitsRule : ℕ → List Entry → Entry → Type 0
FitsRule frames past e = by_event e.event
  where
    by_event : Event → Type 0
    by_event (Did action answer) = NamesFrames frames action × TakesFree past action
    by_event _ = Unit {0}

-- no page stands in two frames, of whatever type
abbrev pub NoPageTwice : List Entry → Type 0
NoPageTwice past = (m n : ℕ) (g : Page) → stands (content past m) g ≡ true → stands (content past n) g ≡ true → m ≡ n

pub record Fits (frames : ℕ) (past : List Entry) : Type 0 where
  pub entries : Along (FitsRule frames) past
  pub pages : AtEachPlace NoPageTwice past

-- ---- Stale: no translation is stale

-- a frame that a processor uses holds this still, and is not on its way out
pub record IsStill (before now : Content) (sealing : Bool) : Type 0 where
  pub held : now ≡ before
  pub settled : sealing ≡ false

-- a translation leads to its page, in a frame that is not on its way out
pub record IsCurrent (enclave : ℕ) (x : BareTranslation) (now : Content) (sealing : Bool) : Type 0 where
  pub page : is_page now (page_at enclave x.number) ≡ true
  pub settled : sealing ≡ false

pub record IsUndisturbed (past : List Entry) (p : ℕ) (t : Stay) : Type 0 where
  pub tcs : IsStill t.tcs_held (content past t.seat.tcs_frame) (is_sealing past t.seat.tcs_frame)
  pub ssa : IsStill t.ssa_held (content past t.seat.ssa_frame) (is_sealing past t.seat.ssa_frame)
  pub translations : All (λ x. IsCurrent t.seat.enclave x (content past x.frame) (is_sealing past x.frame)) (translations past p)

-- no processor inside has a stale translation
abbrev pub NoneStale : List Entry → Type 0
NoneStale past = (p : ℕ) → IfSome (stay past p) (IsUndisturbed past p)

-- the actor is a processor that holds a translation of the page at an offset
abbrev pub HoldsPageAt : List Entry → Actor → ℕ → Type 0
HoldsPageAt past (actors.Cpu p) off = holds_number (translations past p.0) (off / 4096) ≡ true
HoldsPageAt past _ off = ⊥

-- a done access is of a page of which its processor holds a translation
abbrev pub StaleRule : List Entry → Entry → Type 0
StaleRule past e = by_event e.event
  where
    by_event : Event → Type 0
    by_event (Did (Load off) answer) = HoldsPageAt past e.actor off
    by_event (Did (Store off value) answer) = HoldsPageAt past e.actor off
    by_event (Did (Xadd off value) answer) = HoldsPageAt past e.actor off
    by_event _ = Unit {0}

pub record Stale (past : List Entry) : Type 0 where
  pub entries : Along StaleRule past
  pub places : AtEachPlace NoneStale past

-- ---- Evict: only drained pages go out

-- the open start of a frame is one of EWB with this version
pub record EndsWriteOut (o : Option Start) (version : ℕ) : Type 0 where
  pub start : Start
  pub opened : o ≡ Some start
  pub writes : start.loads ≡ None
  pub told : start.version ≡ version

-- what may start to go out of a frame: a TCS or REG page that is drained, and a SECS while no frame holds or loads such a page of its
-- enclave. Of what else a frame holds this rule says nothing
abbrev pub GoesOut : List Entry → ℕ → Content → Type 0
GoesOut past n (Holds page kind perm) = is_drained past n ≡ true
GoesOut past n (SecsOf enclave) = (m : ℕ) → is_child (content past m) enclave ≡ false
GoesOut past n _ = Unit {0}

-- a page that starts to go out is drained, and what ends is the one open start of its frame, with the version of it
abbrev pub EvictRule : List Entry → Entry → Type 0
EvictRule past e = by_event e.event
  where
    by_end : ℕ → Answer → Type 0
    by_end n (answers.Moved page version tag) = EndsWriteOut (open_start past n) version
    by_end n _ = ⊥

    by_event : Event → Type 0
    by_event (Did (EwbStart f slot) answer) = GoesOut past f.0 (content past f.0)
    by_event (Did (Ewb f) answer) = by_end f.0 answer
    by_event _ = Unit {0}

-- ---- Rising: the first part of the rule Fresh

-- the versions that EWB draws are the first one and the numbers after it, in order
abbrev pub RisingRule : ℕ → List Entry → Entry → Type 0
RisingRule first past e = by_event e.event
  where
    by_event : Event → Type 0
    by_event (Did (EwbStart f slot) answer) = answer ≡ answers.Version (next_version first past)
    by_event _ = Unit {0}
