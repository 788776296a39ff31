-- The records that write-outs give, by the entries, and the rule Sealed.
use Rattle.std.specs.Prelude.{ℕ, ◌≡◌, List, Option, Some, option_map}
use Rattle.sgx_rules.specs.declared.entries.Action.TheVariants.{Ewb}
use Rattle.sgx_rules.specs.declared.entries.Answer.{Answer}
use Rattle.sgx_rules.specs.declared.entries.Answer.TheVariants as answers
use Rattle.sgx_rules.specs.declared.entries.Entry.{Entry}
use Rattle.sgx_rules.specs.declared.entries.Event.{Event}
use Rattle.sgx_rules.specs.declared.entries.Event.TheVariants.{Did}
use Rattle.sgx_types.specs.declared.names.Page.{Page}
use Rattle.sgx_rules.specs.PageBytes.{bytes_at, header_at}
use Rattle.sgx_types.specs.Sealed.{Sealed}
use Rattle.seal_record.specs.Cipher.{sealed}
use Rattle.seal_record.specs.Records.{Made}

-- the record of a page under a key and a version: its header and its bytes before a place, None where there is no such page
abbrev pub record_at : List ℕ → ℕ → List Entry → Page → Option Sealed
record_at key version past g = option_map (λ header. sealed key version header (bytes_at past g)) (header_at past g)

-- a record that was given out, with its version
abbrev pub made_with : ℕ → Sealed → Made
made_with version rec = record { version = version; header = rec.header; cipher = rec.cipher; tag = rec.tag }

-- a write-out tells the tag of the page's bytes
pub record IsSealed (key : List ℕ) (past : List Entry) (page : Page) (version : ℕ) (tag : List ℕ) : Type 0 where
  pub rec : Sealed
  pub made : record_at key version past page ≡ Some rec
  pub told : tag ≡ rec.tag

abbrev pub SealedRule : List ℕ → List Entry → Entry → Type 0
SealedRule key past e = by_event e.event
  where
    by_answer : Answer → Type 0
    by_answer (answers.Moved page version tag) = IsSealed key past page version tag
    by_answer _ = ⊥

    by_event : Event → Type 0
    by_event (Did (Ewb f) answer) = by_answer answer
    by_event _ = Unit {0}
