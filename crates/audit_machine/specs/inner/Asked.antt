-- What comes of asking a machine for the instruction of an entry: it made that entry, or the entry breaks a rule.
use Rattle.std.specs.Prelude.{ℕ, ◌≡◌, ◌==◌, nat_lt, Bool, false, List, [], ◌∷◌, ◌++◌, Option, None, Some}
use Rattle.sgx_rules.specs.declared.entries.Action.TheVariants.{Ewb, Eld}
use Rattle.sgx_rules.specs.declared.entries.Answer.TheVariants.{Moved}
use Rattle.sgx_rules.specs.declared.entries.Entry.{Entry}
use Rattle.sgx_rules.specs.declared.entries.Event.{Event}
use Rattle.sgx_rules.specs.declared.entries.Event.TheVariants.{Did}
use Rattle.sgx_types.specs.declared.names.Frame.{Frame}
use Rattle.sgx_types.specs.declared.names.Actor.{Actor}
use Rattle.sgx_types.specs.declared.names.Actor.TheVariants as actors
use Rattle.sgx_types.specs.declared.names.Page.{Page}
use Rattle.sgx_types.specs.declared.names.TheConstants.{SECS_NUMBER}
use Rattle.sgx_rules.specs.PageBytes.{header_at}
use Rattle.sgx_types.specs.Making.{Making}
use Rattle.sgx_types.specs.Sealed.{Sealed}
use Rattle.sgx_rules.specs.Starts.{Start, open_start}
use Rattle.seal_record.specs.Cipher.{tag}
use Rattle.seal_record.specs.Records.{Made}
use Rattle.seal_record.specs.declared.unseal.UnsealedWork.{UnsealedWork}
use Rattle.seal_record.specs.Sealing.{made_with}
use Rattle.job_grammar.specs.Jobs.{JobView}
use Rattle.machine_laws.specs.inner.Histories.{BringsBack, StandsWithAllRules}
use Rattle.machine_laws.specs.inner.State.{State}
use Rattle.history_rules.specs.declared.rules.Rule.{Rule}
use Rattle.history_rules.specs.inner.Histories.{is_machines}
use Rattle.history_machine.specs.Histories.{FailsAmong}
use Rattle.audit_machine.specs.declared.leaving.Out.{Out}
use Rattle.audit_machine.specs.declared.leaving.Out.TheVariants as outs

-- ---- the machine

-- a machine of a job that has so many processors: no rule of the processor counts them
abbrev pub made_for : JobView → ℕ → Making
made_for j cpus = record { frames = j.epc; cpus = cpus; key = j.key; first_epoch = j.start_epoch; first_version = j.start_version }

-- ---- of an entry

-- whatever entries and records the state stood for, the state after it stands for them with this entry and these records
abbrev pub GoesOnWith : State → Entry → List Made → State → Type 0
GoesOnWith s e more t = (k : Making) (past : List Entry) (records : List Made) → StandsWithAllRules k s past records
    → StandsWithAllRules k t (e ∷ past) (records ++ more)

-- whatever entries the state stood for, behind them the entry breaks this of the processor's rules first
abbrev pub Breaks : State → Entry → Rule → Type 0
Breaks s e rule = (j : JobView) (cpus : ℕ) (past : List Entry) (records : List Made) → StandsWithAllRules (made_for j cpus) s past records
    → FailsAmong is_machines j past (Some e) rule

-- .. where a rule was told
abbrev pub Takes : State → Entry → State → Option Rule → Type 0
Takes s e t None = GoesOnWith s e [] t
Takes s e t (Some rule) = Breaks s e rule

-- ---- of the end of a write-out

-- the entry tells of a page that went out, with the version and the tag of this record, which opens to the page's bytes
pub record HasLeft (s : State) (e : Entry) (f : Frame) (work : UnsealedWork) (t : State) : Type 0 where
  pub page : Page
  pub told : e.event ≡ Did (Ewb f) (Moved page work.version work.rec.tag)
  pub key : work.key ≡ s.key
  pub goes_on : GoesOnWith s e (made_with work.version work.rec ∷ []) t

-- an event tells of a page that has the number of a SECS
abbrev pub tells_secs : Event → Bool
tells_secs (Did action (Moved page version tag)) = page.number == SECS_NUMBER
tells_secs _ = false

abbrev pub TakesOut : State → Entry → Frame → State → Out → Type 0
TakesOut s e f t (outs.Broken rule) = Breaks s e rule
TakesOut s e f t (outs.Gone work) = HasLeft s e f work t

-- ---- of the end of a load

-- the record with which the page went out last that a frame waits for, under the version that its start found
pub record IsOwnRecord (key : List ℕ) (past : List Entry) (n : ℕ) (rec : Sealed) : Type 0 where
  pub start : Start
  pub page : Page
  pub opened : open_start past n ≡ Some start
  pub loads : start.loads ≡ Some page
  pub brings : BringsBack key past n page start.version rec
  pub header : header_at past page ≡ Some rec.header
  pub tagged : rec.tag ≡ tag key start.version rec.header rec.cipher

-- an entry that tells that the load was done
abbrev pub IsDoneBack : Event → Frame → Type 0
IsDoneBack (Did action answer) f = action ≡ Eld f
IsDoneBack _ f = ⊥

-- where a frame waits for the page of this record, the entry is taken, or breaks this rule first
abbrev pub TakesBack : State → Entry → Frame → Sealed → State → Option Rule → Type 0
TakesBack s e f rec t (Some rule) = (j : JobView) (cpus : ℕ) (past : List Entry) (records : List Made)
    → StandsWithAllRules (made_for j cpus) s past records → IsOwnRecord j.key past f.0 rec → FailsAmong is_machines j past (Some e) rule
TakesBack s e f rec t None = (k : Making) (past : List Entry) (records : List Made)
    → StandsWithAllRules k s past records → IsOwnRecord k.key past f.0 rec → StandsWithAllRules k t (e ∷ past) records

-- ---- of a processor's instruction by whom the machine has no such processor

abbrev pub is_processor : ℕ → Actor → Bool
is_processor cpus (actors.Cpu p) = nat_lt p.0 cpus
is_processor cpus actors.Builder = false
is_processor cpus actors.Reclaimer = false
