-- The records that are kept for the pages of a trace, and what is asked of them: a page that is outside has the record with which it went
-- out, and each record that is kept is one with which its page went out.
use Rattle.std.specs.Prelude.{ℕ, ◌≡◌, Bool, true, false, if◌then◌else◌, List, Option, Some, None}
use Rattle.std.specs.Map.{lookup}
use Rattle.sgx_rules.specs.declared.entries.Action.{Action}
use Rattle.sgx_rules.specs.declared.entries.Action.TheVariants.{Ewb}
use Rattle.sgx_rules.specs.declared.entries.Entry.{Entry}
use Rattle.sgx_rules.specs.declared.entries.Event.{Event}
use Rattle.sgx_rules.specs.declared.entries.Event.TheVariants.{Did}
use Rattle.sgx_types.specs.declared.names.Page.{Page}
use Rattle.sgx_types.specs.declared.names.VaSlot.{VaSlot}
use Rattle.sgx_types.specs.Pages.{same_page}
use Rattle.sgx_types.specs.Sealed.{Sealed}
use Rattle.seal_record.specs.declared.unseal.UnsealedWork.{UnsealedWork}
use Rattle.seal_record.specs.Sealing.{made_with}
use Rattle.machine_copies.specs.inner.Copies.{InSlot, copy}
use Rattle.machine_copies.specs.inner.Once.{IsGone, IsMade}

-- ---- what is kept

-- a record, with the version under which it was made
abbrev pub Kept : Type 0
Kept = ℕ × Sealed

-- the one that is kept for each page, if one is
abbrev pub Records : Type 0
Records = Page → Option Kept

abbrev pub no_records : Records
no_records g = None

-- this one is kept for a page in place of what was
abbrev pub with_record : Records → Page → Kept → Records
with_record kept page one g = if same_page page g then Some one else kept g

-- nothing is kept for a page any more
abbrev pub without_record : Records → Page → Records
without_record kept page g = if same_page page g then None else kept g

-- that of a page among pages and their records
abbrev pub records_of : List (Page × Kept) → Records
records_of pairs g = lookup (same_page g) pairs

-- the record that was opened, with the version under which it was
abbrev pub kept_of : UnsealedWork → Kept
kept_of work = (work.version, work.rec)

-- ---- what is asked of it

-- a record is kept that was made under this version
abbrev pub IsKeptUnder : ℕ → Option Kept → Type 0
IsKeptUnder version kept = (rec : Sealed) × (kept ≡ Some (version, rec))

-- a record with which the page went out
pub record IsOldRecord (key : List ℕ) (past : List Entry) (g : Page) (one : Kept) : Type 0 where
  pub gone : IsGone past (record { page = g; version = one.0 })
  pub made : IsMade key past (made_with one.0 one.1)

pub record KeepsRecords (key : List ℕ) (past : List Entry) (kept : Records) : Type 0 where
  -- for each page that is outside one is kept, of the version in its slot
  pub outside : (g : Page) (slot : VaSlot) (v : ℕ) → copy past g ≡ Some (InSlot slot v) → IsKeptUnder v (kept g)
  -- .. and what is kept for a page is its own
  pub own : (g : Page) (one : Kept) → kept g ≡ Some one → IsOldRecord key past g one

-- ---- entries by which pages go out

abbrev pub is_ewb : Action → Bool
is_ewb (Ewb f) = true
is_ewb _ = false

-- an entry tells of an `ewb` that was done
abbrev pub is_done_ewb : Event → Bool
is_done_ewb (Did action answer) = is_ewb action
is_done_ewb _ = false
