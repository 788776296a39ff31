-- What the calls of a run say of the records: those that are put are sealed records of their pages, and the end of a load tells of the
-- one that was given. The part on the bytes of the pages stands apart, since it alone supposes that no record was forged.
use Rattle.std.specs.Prelude.{ℕ, ◌≡◌, List, [], ◌∷◌, Option, Some, IfSome}
use Rattle.std.specs.Option.{IsSomeAnd}
use Rattle.sgx_rules.specs.declared.entries.Action.TheVariants.{Ewb, Eld}
use Rattle.sgx_rules.specs.declared.entries.Answer.TheVariants.{Moved}
use Rattle.sgx_rules.specs.declared.entries.Entry.{Entry}
use Rattle.sgx_rules.specs.declared.entries.Event.{Event}
use Rattle.sgx_rules.specs.declared.entries.Event.TheVariants.{Did, Refused}
use Rattle.sgx_types.specs.declared.names.Page.{Page}
use Rattle.sgx_rules.specs.declared.refusals.Refusal.{Refusal}
use Rattle.sgx_rules.specs.declared.refusals.Refusal.TheVariants as why
use Rattle.sgx_rules.specs.PageBytes.{bytes_at, header_at}
use Rattle.sgx_types.specs.Sealed.{Sealed}
use Rattle.sgx_rules.specs.Starts.{Start, open_start}
use Rattle.seal_record.specs.Cipher.{cipher, tag}
use Rattle.io_edges.specs.declared.plans.PlanLine.{PlanLine}
use Rattle.job_grammar.specs.Jobs.{JobView}
use Rattle.backing_store.specs.Calls.{Call, Put}
use Rattle.history_rules.specs.Calls.{CallsAre, before}
use Rattle.history_rules.specs.Given.{gift}

-- ---- records

-- a record that is put has the page's header, and the tag of the version and of its own header and cipher
pub record IsSealedRecord (key : List ℕ) (past : List Entry) (g : Page) (version : ℕ) (rec : Sealed) : Type 0 where
  pub header : header_at past g ≡ Some rec.header
  pub tagged : rec.tag ≡ tag key version rec.header rec.cipher

abbrev pub PutsSealed : List ℕ → List Entry → Page → ℕ → List Call → Type 0
PutsSealed key past g version (Put page rec failed ∷ calls) = IsSealedRecord key past g version rec
PutsSealed key past g version _ = ⊥

-- a page came back by the record that was given for it
pub record IsBackBy (past : List Entry) (g : Page) (told : List ℕ) (rec : Sealed) : Type 0 where
  pub tagged : rec.tag ≡ told
  pub header : header_at past g ≡ Some rec.header

-- a record was refused: its tag is not the one that is computed of it under the version of its slot, or its header is another
abbrev pub IsUnfit : List ℕ → Start → Refusal → Sealed → Type 0
IsUnfit key start (why.MacFail given computed) rec = (given ≡ rec.tag) × (computed ≡ tag key start.version rec.header rec.cipher)
IsUnfit key start (why.BadHeader enclave address flags) rec = rec.header ≡ record { enclave = enclave; address = address; flags = flags }
IsUnfit key start _ rec = ⊥

abbrev pub TellsOfStore : List ℕ → List Entry → (ℕ → Option Sealed) → Event → List Call → Type 0
TellsOfStore key past gifts (Did (Ewb f) (Moved page version told)) calls = PutsSealed key past page version calls
TellsOfStore key past gifts (Did (Eld f) (Moved page version told)) calls = IsSomeAnd (gifts f.0) (IsBackBy past page told)
TellsOfStore key past gifts (Refused (Eld f) refusal) calls =
    IsSomeAnd (open_start past f.0) (λ start. IsSomeAnd (gifts f.0) (IsUnfit key start refusal))
TellsOfStore key past gifts _ calls = Unit {0}

-- each entry tells what is so of the record of its call
abbrev pub RecordsAre : List ℕ → List Entry → List Call → Type 0
RecordsAre key [] calls = Unit {0}
RecordsAre key (e ∷ past) calls =
    TellsOfStore key past (gift past (before e.event calls)) e.event calls × RecordsAre key past (before e.event calls)

-- the store's calls are those of which the trace tells, and no others, in their order, with their answers and records
pub record StoreCalls (key : List ℕ) (past : List Entry) (calls : List Call) : Type 0 where
  pub calls_are : CallsAre past calls
  pub records : RecordsAre key past calls

-- a store that tells its calls was handed the job's plan lines, and its calls are those
abbrev pub StoreTrue : JobView → List Entry → List PlanLine → Option (List Call) → Type 0
StoreTrue j past plans told = IfSome told (λ calls. (plans ≡ j.plans) × StoreCalls j.key past calls)

-- ---- the bytes of what was put

abbrev pub HasFlatBytes : List ℕ → List Entry → Page → ℕ → List Call → Type 0
HasFlatBytes key past g version (Put page rec failed ∷ calls) = rec.cipher ≡ cipher key version (bytes_at past g)
HasFlatBytes key past g version _ = ⊥

abbrev pub PutsBytes : List ℕ → List Entry → Event → List Call → Type 0
PutsBytes key past (Did (Ewb f) (Moved page version told)) calls = HasFlatBytes key past page version calls
PutsBytes key past _ calls = Unit {0}

-- each record that is put is the cipher of the page's flat bytes there
abbrev pub PutsAreFlat : List ℕ → List Entry → List Call → Type 0
PutsAreFlat key [] calls = Unit {0}
PutsAreFlat key (e ∷ past) calls = PutsBytes key past e.event calls × PutsAreFlat key past (before e.event calls)
