-- What the book keeps over an honest store, also where version array pages were out: the slots of those that are back are what the
-- entries say.
use Rattle.std.specs.Prelude.{ℕ, ◌≡◌, true, List, [], ◌∷◌, Some, is_some, false}
use Rattle.sgx_rules.specs.declared.entries.Action.TheVariants.{Ewb}
use Rattle.sgx_rules.specs.declared.entries.Answer.TheVariants.{Moved}
use Rattle.sgx_rules.specs.declared.entries.Entry.{Entry}
use Rattle.sgx_rules.specs.declared.entries.Event.{Event}
use Rattle.sgx_rules.specs.declared.entries.Event.TheVariants.{Did}
use Rattle.sgx_rules.specs.inner.Arrays.{words_out}
use Rattle.sgx_rules.specs.PageBytes.{va_words}
use Rattle.sgx_rules.specs.Slots.{version_in}
use Rattle.sgx_rules.specs.Starts.{open_start, Start}
use Rattle.sgx_types.specs.Making.{Making}
use Rattle.sgx_types.specs.Pages.{is_va_page, va_page}
use Rattle.sgx_types.specs.Sealed.{Sealed}
use Rattle.epcm_entry.specs.inner.Words.{words_of as words_in}
use Rattle.seal_record.specs.Cipher.{cipher}
use Rattle.backing_store.specs.Calls.{Call, Put}
use Rattle.machine_laws.specs.inner.Columns.{HasAllVersions}
use Rattle.sgx_machine.specs.inner.Parts.{Parts, state_of}
use Rattle.history_rules.specs.Calls.{before}
use Rattle.history_rules.specs.Honest.{last_put}
use Rattle.history_rules.specs.inner.Honest.{GiftsAreLast}
use Rattle.driver_rules.specs.Stops.{has_loss}

-- an open start of a load has found the version that its slot holds
abbrev pub LoadsHaveFound : List Entry → Type 0
LoadsHaveFound past = (n : ℕ) (x : Start) → open_start past n ≡ Some x → is_some x.loads ≡ true → x.version ≡ version_in past x.slot

-- the record that is put of a version array page deciphers to its slots
abbrev pub PutsArray : List ℕ → List Entry → Event → List Call → Type 0
PutsArray key past (Did (Ewb f) (Moved page version tag)) (Put g rec failed ∷ calls) =
    is_va_page page ≡ true → words_in (cipher key version rec.cipher) ≡ va_words past page.number
PutsArray key past event calls = Unit {0}

abbrev pub PutsAreArrays : List ℕ → List Entry → List Call → Type 0
PutsAreArrays key [] calls = Unit {0}
PutsAreArrays key (e ∷ past) calls = PutsArray key past e.event calls × PutsAreArrays key past (before e.event calls)

-- the last record put of a version array page, which went out last under this version, deciphers to the slots with which it went
pub record IsArrayPut (key : List ℕ) (past : List Entry) (calls : List Call) (number version : ℕ) : Type 0 where
  pub words : List ℕ
  pub last : words_out past number ≡ Some words
  pub rec : Sealed
  pub put : last_put calls (va_page number) ≡ Some rec
  pub back : words_in (cipher key version rec.cipher) ≡ words

pub record IsHonestBook (made : Making) (past : List Entry) (m : Parts) (calls : List Call) : Type 0 where
  -- each page came back
  pub back : has_loss past ≡ false
  -- each started load has its page's last record put, and has found its version
  pub gifts : GiftsAreLast past calls
  pub found : LoadsHaveFound past
  -- the slots of the version array pages in frames have the versions that the entries say, and so had the records put of such pages
  pub arrays : HasAllVersions (state_of m) past
  pub puts : PutsAreArrays made.key past calls
