-- The fields of a trace's lines: what stands in the line of each instruction, answer and refusal, in which order. How a field is spelled
-- and which values it can have is said once, for all lines.
use Rattle.std.specs.Prelude.{ℕ, ◌<◌, ◌^◌, ◌-◌, ◌==◌, ◌&&◌, not, nat_lt, if◌then◌else◌, Bool, List, [], ◌∷◌, ◌++◌, Option, Some, None}
use Rattle.std.specs.Prelude.{codes}
use Rattle.std.specs.Fmt.{decimal}
use Rattle.std.specs.List.{AllByRecursion, flat_map}
use Rattle.sgx_rules.specs.declared.entries.Event.{Event}
use Rattle.sgx_rules.specs.declared.entries.Event.TheVariants as events
use Rattle.sgx_rules.specs.declared.entries.Action.{Action}
use Rattle.sgx_rules.specs.declared.entries.Action.TheVariants as actions
use Rattle.sgx_rules.specs.declared.entries.Answer.{Answer}
use Rattle.sgx_rules.specs.declared.entries.Answer.TheVariants as answers
use Rattle.sgx_rules.specs.declared.refusals.Refusal.{Refusal}
use Rattle.sgx_rules.specs.declared.refusals.Refusal.TheVariants as why
use Rattle.sgx_types.specs.declared.lawful.PageInit.{PageInit}
use Rattle.sgx_types.specs.declared.lawful.PageInit.TheVariants as inits
use Rattle.sgx_types.specs.declared.names.Frame.{Frame}
use Rattle.sgx_types.specs.declared.names.Page.{Page}
use Rattle.sgx_types.specs.Digests.{IsDigest}
use Rattle.text_words.specs.Words.{Words, digest_word, enclave_word, hexadecimal}
use Rattle.trace_text.specs.declared.edition.Edition.{Edition}
use Rattle.trace_text.specs.declared.edition.Edition.TheVariants as editions
use Rattle.trace_text.specs.Names.{access_word, cause_word, fault_word, kind_word, look_word, perms_word, stop_word}

-- ---- a field

pub data Field : Type 0 where
  name : List ℕ → Field
  number : ℕ → ℕ → Field
  address : ℕ → Field
  enclave : ℕ → Field
  page : Page → Field
  digest : List ℕ → Field

-- the SECS page of an enclave that has a letter
abbrev pub is_lettered_secs : Page → Bool
is_lettered_secs p = (p.number == 2 ^ 32 - 1) && nat_lt p.enclave 9

-- A page has two words: its enclave and its number there. The second edition writes a version array page, which is of enclave 0, as `va`
-- and its number, and a SECS page as the letter of its enclave and `secs`.
abbrev pub page_words : Edition → Page → Words
page_words editions.One p = enclave_word p.enclave ∷ decimal p.number ∷ []
page_words editions.Two p =
    if p.enclave == 0 then codes "va" ∷ decimal p.number ∷ []
    else (if is_lettered_secs p then enclave_word p.enclave ∷ codes "secs" ∷ [] else enclave_word p.enclave ∷ decimal p.number ∷ [])

-- a name as it stands; a number of so many bits in decimal; an address of 64 bits in hexadecimal; an enclave by its letter or its
-- digits; a page as the edition has it; the bytes of a digest in hexadecimal
abbrev pub field_words : Edition → Field → Words
field_words edition (name word) = word ∷ []
field_words edition (number bits n) = decimal n ∷ []
field_words edition (address n) = hexadecimal n ∷ []
field_words edition (enclave e) = enclave_word e ∷ []
field_words edition (page p) = page_words edition p
field_words edition (digest bytes) = digest_word bytes ∷ []

-- a field's value has its bits, and a digest its bytes
abbrev pub Fits : Field → Type 0
Fits (name word) = Unit {0}
Fits (number bits n) = n < 2 ^ bits
Fits (address n) = n < 2 ^ 64
Fits (enclave e) = e < 2 ^ 16
Fits (page p) = (p.enclave < 2 ^ 16) × (p.number < 2 ^ 32)
Fits (digest bytes) = IsDigest bytes

-- the words of fields, one behind the other
abbrev pub words_of_fields : Edition → List Field → Words
words_of_fields edition fields = flat_map (field_words edition) fields

abbrev pub AllFit : List Field → Type 0
AllFit fields = AllByRecursion Fits fields

abbrev frame : Frame → Field
frame f = number 32 f.0

-- ---- instructions

abbrev pub init_fields : PageInit → List Field
init_fields (inits.Words v) = name (codes "words") ∷ number 64 v ∷ []
init_fields (inits.Tcs ossa nssa) = name (codes "tcs") ∷ number 32 ossa ∷ number 32 nssa ∷ []

-- the digest that is expected, or a dash for none
abbrev pub expect_field : Option (List ℕ) → Field
expect_field None = name (codes "-")
expect_field (Some bytes) = digest bytes

abbrev pub action_fields : Action → List Field
action_fields (actions.Epa f) = name (codes "epa") ∷ frame f ∷ []
action_fields (actions.Create e f base size) = name (codes "create") ∷ enclave e ∷ frame f ∷ address base ∷ address size ∷ []
action_fields (actions.Add e n f kind perm init) =
    name (codes "add") ∷ enclave e ∷ number 32 n ∷ frame f ∷ name (kind_word kind) ∷ name (perms_word perm) ∷ init_fields init
action_fields (actions.Extend f chunk) = name (codes "extend") ∷ frame f ∷ number 8 chunk ∷ []
action_fields (actions.Init e expect) = name (codes "init") ∷ enclave e ∷ expect_field expect ∷ []
action_fields (actions.Enter e tcs tf sf) = name (codes "enter") ∷ enclave e ∷ number 32 tcs ∷ frame tf ∷ frame sf ∷ []
action_fields (actions.Resume e tcs tf sf) = name (codes "resume") ∷ enclave e ∷ number 32 tcs ∷ frame tf ∷ frame sf ∷ []
action_fields actions.Exit = name (codes "exit") ∷ []
action_fields (actions.Aex cause) = name (codes "aex") ∷ name (cause_word cause) ∷ []
action_fields (actions.Fill n f) = name (codes "fill") ∷ number 32 n ∷ frame f ∷ []
action_fields (actions.Load off) = name (codes "load") ∷ address off ∷ []
action_fields (actions.Store off v) = name (codes "store") ∷ address off ∷ number 64 v ∷ []
action_fields (actions.Xadd off v) = name (codes "xadd") ∷ address off ∷ number 64 v ∷ []
action_fields (actions.Set v) = name (codes "set") ∷ number 64 v ∷ []
action_fields (actions.Plus v) = name (codes "plus") ∷ number 64 v ∷ []
action_fields (actions.Pf op off) = name (codes "pf") ∷ name (access_word op) ∷ address off ∷ []
action_fields (actions.OutLoad e off) = name (codes "outload") ∷ enclave e ∷ address off ∷ []
action_fields (actions.OutStore e off v) = name (codes "outstore") ∷ enclave e ∷ address off ∷ number 64 v ∷ []
action_fields (actions.Block f) = name (codes "block") ∷ frame f ∷ []
action_fields (actions.Track e) = name (codes "track") ∷ enclave e ∷ []
action_fields (actions.EwbStart f slot) = name (codes "ewbstart") ∷ frame f ∷ frame slot.frame ∷ number 16 slot.index ∷ []
action_fields (actions.Ewb f) = name (codes "ewb") ∷ frame f ∷ []
action_fields (actions.EldStart f p slot) =
    name (codes "eldstart") ∷ frame f ∷ page p ∷ frame slot.frame ∷ number 16 slot.index ∷ []
action_fields (actions.Eld f) = name (codes "eld") ∷ frame f ∷ []

-- ---- answers

abbrev pub answer_fields : Answer → List Field
answer_fields answers.Plain = []
answer_fields (answers.Cssa n) = number 32 n ∷ []
answer_fields (answers.Value v) = number 64 v ∷ []
answer_fields (answers.Hash bytes) = digest bytes ∷ []
answer_fields (answers.Version v) = number 64 v ∷ []
answer_fields (answers.Moved p v tag) = page p ∷ number 64 v ∷ digest tag ∷ []
answer_fields (answers.Pf fault) = name (fault_word fault) ∷ []
answer_fields (answers.Va n) = number 32 n ∷ []

-- the forms that answers have
pub data Form : Type 0 where
  plain : Form
  cssa : Form
  value : Form
  hash : Form
  version : Form
  moved : Form
  pf : Form
  va : Form

abbrev pub answer_form : Answer → Form
answer_form answers.Plain = plain
answer_form (answers.Cssa n) = cssa
answer_form (answers.Value v) = value
answer_form (answers.Hash bytes) = hash
answer_form (answers.Version v) = version
answer_form (answers.Moved p v tag) = moved
answer_form (answers.Pf fault) = pf
answer_form (answers.Va n) = va

-- the number of a version array page stands in the second edition alone
abbrev pub epa_form : Edition → Form
epa_form editions.One = plain
epa_form editions.Two = va

-- the form of what an instruction answers when it is done
abbrev pub form_of : Edition → Action → Form
form_of edition (actions.Epa f) = epa_form edition
form_of edition (actions.Enter e tcs tf sf) = cssa
form_of edition (actions.Resume e tcs tf sf) = value
form_of edition (actions.Load off) = value
form_of edition (actions.Xadd off v) = value
form_of edition (actions.Plus v) = value
form_of edition (actions.OutLoad e off) = value
form_of edition (actions.Init e expect) = hash
form_of edition (actions.EwbStart f slot) = version
form_of edition (actions.EldStart f p slot) = version
form_of edition (actions.Ewb f) = moved
form_of edition (actions.Eld f) = moved
form_of edition (actions.Pf op off) = pf
form_of edition action = plain

-- ---- refusals

abbrev pub refusal_fields : Refusal → List Field
refusal_fields why.PgInvld = name (codes "PgInvld") ∷ []
refusal_fields why.PgIsSecs = name (codes "PgIsSecs") ∷ []
refusal_fields why.NotBlockable = name (codes "NotBlockable") ∷ []
refusal_fields why.BlkState = name (codes "BlkState") ∷ []
refusal_fields why.Conflict = name (codes "Conflict") ∷ []
refusal_fields (why.PrevTrk older) = name (codes "PrevTrk") ∷ number 32 older ∷ []
refusal_fields why.EpochSpent = name (codes "EpochSpent") ∷ []
refusal_fields why.PageNotBlocked = name (codes "PageNotBlocked") ∷ []
refusal_fields (why.NotTracked epoch older) = name (codes "NotTracked") ∷ number 64 epoch ∷ number 32 older ∷ []
refusal_fields (why.SlotOccupied v) = name (codes "SlotOccupied") ∷ number 64 v ∷ []
refusal_fields why.SlotEmpty = name (codes "SlotEmpty") ∷ []
refusal_fields why.VersionSpent = name (codes "VersionSpent") ∷ []
refusal_fields (why.MacFail given computed) = name (codes "MacFail") ∷ digest given ∷ digest computed ∷ []
refusal_fields (why.BadHeader e at flags) = name (codes "BadHeader") ∷ number 64 e ∷ number 64 at ∷ number 64 flags ∷ []
refusal_fields (why.ChildPresent count) = name (codes "ChildPresent") ∷ number 32 count ∷ []
refusal_fields why.PageExists = name (codes "PageExists") ∷ []
refusal_fields why.BadRange = name (codes "BadRange") ∷ []
refusal_fields why.BadPerm = name (codes "BadPerm") ∷ []
refusal_fields why.BadKind = name (codes "BadKind") ∷ []
refusal_fields why.NotInit = name (codes "NotInit") ∷ []
refusal_fields why.IsInit = name (codes "IsInit") ∷ []
refusal_fields (why.BadMeasure made) = name (codes "BadMeasure") ∷ digest made ∷ []
refusal_fields why.TcsBusy = name (codes "TcsBusy") ∷ []
refusal_fields why.NoFrame = name (codes "NoFrame") ∷ []
refusal_fields why.NoSaved = name (codes "NoSaved") ∷ []
refusal_fields why.FrameBusy = name (codes "FrameBusy") ∷ []
refusal_fields why.Absent = name (codes "Absent") ∷ []
refusal_fields why.Blocked = name (codes "Blocked") ∷ []
refusal_fields why.NoPerm = name (codes "NoPerm") ∷ []
refusal_fields why.Miss = name (codes "Miss") ∷ []
refusal_fields why.NoFault = name (codes "NoFault") ∷ []
refusal_fields why.WrongMode = name (codes "WrongMode") ∷ []

-- ---- events

abbrev pub event_fields : Event → List Field
event_fields (events.Did action answer) = action_fields action ++ answer_fields answer
event_fields (events.Refused action refusal) = name (codes "refused") ∷ action_fields action ++ refusal_fields refusal
event_fields (events.Age p look) = name (codes "age") ∷ page p ∷ name (look_word look) ∷ []
event_fields (events.Kick cpu) = name (codes "kick") ∷ number 4 cpu.0 ∷ []
event_fields (events.Bus p stop) = name (codes "bus") ∷ page p ∷ name (stop_word stop) ∷ []
