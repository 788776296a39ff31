-- A machine that stands in all for its entries and for the records that its write-outs gave: what it keeps where no record is
-- forged.
use Rattle.std.specs.Prelude.{ℕ, ◌≡◌, ◌≤◌, true, List, [], ◌∷◌, Option, Some, None, IfSome, length}
use Rattle.sgx_rules.specs.declared.entries.Action.TheVariants.{Ewb}
use Rattle.sgx_rules.specs.declared.entries.Answer.TheVariants.{Moved}
use Rattle.sgx_rules.specs.declared.entries.Entry.{Entry}
use Rattle.sgx_rules.specs.declared.entries.Event.{Event}
use Rattle.sgx_rules.specs.declared.entries.Event.TheVariants.{Did}
use Rattle.sgx_types.specs.declared.names.Page.{Page}
use Rattle.sgx_types.specs.declared.names.VaSlot.{VaSlot}
use Rattle.sgx_rules.specs.Flat.{flat, words_of}
use Rattle.sgx_types.specs.Pages.{is_own_page, is_va_page, va_page}
use Rattle.sgx_rules.specs.PageBytes.{bytes_at, va_words}
use Rattle.sgx_rules.specs.inner.Arrays.{words_out}
use Rattle.sgx_rules.specs.Rules.{Along}
use Rattle.epcm_entry.specs.inner.Words.{words_of as words_in}
use Rattle.sgx_types.specs.Sealed.{Sealed}
use Rattle.sgx_rules.specs.inner.Starts.{BareStart}
use Rattle.sgx_types.specs.Making.{Making}
use Rattle.epcm_entry.specs.inner.Words as words
use Rattle.seal_record.specs.Cipher.{cipher}
use Rattle.seal_record.specs.Records.{Given, Made}
use Rattle.machine_copies.specs.inner.Copies.{InSlot, copy}
use Rattle.sgx_rules.specs.Fresh.{FreshRule, IsLastOut, last_out}
use Rattle.machine_copies.specs.inner.Once.{IsMade}
use Rattle.seal_record.specs.Sealing.{SealedRule, made_with, record_at}
use Rattle.seal_record.specs.inner.Sealing.{made_by}
use Rattle.machine_laws.specs.inner.Shape.{ShapeWithRules}
use Rattle.machine_laws.specs.inner.Stands.{StandsWithRules}
use Rattle.machine_laws.specs.inner.State.{State}

-- bytes bring what the entries have of a page: the flat words of a TCS or REG page, the slots of a version array page. Of a SECS nothing
-- is taken from them
pub record BringsBytes (past : List Entry) (g : Page) (plain : List ℕ) : Type 0 where
  pub array : is_va_page g ≡ true → words.words_of plain ≡ va_words past g.number
  pub own : is_own_page g ≡ true → words.words_of plain ≡ words_of (flat past) g

-- a record that was made under this version has the bytes of a page
pub record HasBytes (key : List ℕ) (past : List Entry) (g : Page) (under : ℕ) (one : Made) : Type 0 where
  pub made : IsMade key past one
  pub version : one.version ≡ under
  pub cipher : one.cipher ≡ cipher key under (bytes_at past g)
  pub size : length (bytes_at past g) ≡ 4096
  pub back : BringsBytes past g (bytes_at past g)

-- the record of each page that is outside has the page's bytes
abbrev pub OutsideBytes : List ℕ → List Entry → Type 0
OutsideBytes key past = (g : Page) (slot : VaSlot) (v : ℕ) → copy past g ≡ Some (InSlot slot v) → (one : Made) × HasBytes key past g v one

pub record StandsWithAllRules (made : Making) (s : State) (past : List Entry) (given : List Made) : Type 0 where
  pub positive : 1 ≤ made.first_version
  pub shaped : ShapeWithRules made s past
  pub standing : StandsWithRules s past
  pub fresh : Along (FreshRule made.first_version) past
  pub sealed : Along (SealedRule made.key) past
  pub records : given ≡ made_by made.key past
  pub outside : OutsideBytes made.key past

-- a record brings a page back into a frame as it went out last: with the version and the tag of its last write-out, and its bytes
pub record BringsBack (key : List ℕ) (past : List Entry) (n : ℕ) (g : Page) (version : ℕ) (rec : Sealed) : Type 0 where
  pub last : IsLastOut past n g version rec.tag
  pub bytes : BringsBytes past g (cipher key version rec.cipher)

-- .. the page that a frame of the state waits for
abbrev pub BringsIn : List ℕ → List Entry → State → ℕ → Sealed → Type 0
BringsIn key past s n rec = (start : BareStart) (g : Page) → s.start n ≡ Some start → start.loads ≡ Some g
    → BringsBack key past n g start.version rec

-- the record that a write-out gave, with the version that it tells
abbrev pub given_out : Event → Sealed → List Made
given_out (Did (Ewb f) (Moved page version tag)) rec = made_with version rec ∷ []
given_out _ rec = []

-- a record that the commit of a load looks at, under the version that its start found
abbrev pub looked_at_by : Option BareStart → List Made → Sealed → List Given
looked_at_by None records rec = []
looked_at_by (Some start) records rec =
    record { made = length records; version = start.version; header = rec.header; cipher = rec.cipher; tag = rec.tag } ∷ []

abbrev pub looked_at : State → ℕ → List Made → Sealed → List Given
looked_at s f records rec = looked_at_by (s.start f) records rec

-- ---- without a premise on records

-- the record of a version array page that goes out is the one of its slots
abbrev pub GivesArray : List ℕ → List Entry → Event → Sealed → Type 0
GivesArray key past (Did (Ewb f) (Moved page version tag)) rec = is_va_page page ≡ true → record_at key version past page ≡ Some rec
GivesArray key past event rec = Unit {0}

-- a reload of a version array page brings the slots with which it last went out, under the version of that write-out: they are what its
-- record deciphers to
pub record BringsArray (key : List ℕ) (past : List Entry) (number version : ℕ) (rec : Sealed) : Type 0 where
  pub words : List ℕ
  pub last : words_out past number ≡ Some words
  pub under : IfSome (last_out past (va_page number)) (λ o. o.version ≡ version)
  pub back : words_in (cipher key version rec.cipher) ≡ words

-- .. where a frame of the state waits for one
abbrev pub BringsArrayIn : List ℕ → List Entry → State → ℕ → Sealed → Type 0
BringsArrayIn key past s n rec = (start : BareStart) (number : ℕ) → s.start n ≡ Some start → start.loads ≡ Some (va_page number)
    → BringsArray key past number start.version rec
