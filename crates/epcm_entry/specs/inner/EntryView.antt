-- What an EPCM entry says of its frame, and the entries that instructions put.
use Rattle.std.specs.Prelude.{ℕ, Bool, true, false, Option, Some, None, Result, Ok, Err, if◌then◌else◌}
use Rattle.sgx_types.specs.declared.names.Page.{Page}
use Rattle.sgx_types.specs.declared.names.Kind.{Kind}
use Rattle.sgx_types.specs.declared.names.Perm.{Perm}
use Rattle.sgx_rules.specs.declared.refusals.Refusal.{Refusal}
use Rattle.sgx_rules.specs.declared.refusals.Refusal.TheVariants as why
use Rattle.epcm_entry.specs.declared.entry_view.EntryView.{EntryView}
use Rattle.epcm_entry.specs.declared.entry_view.EntryView.TheVariants as views

-- the frame holds nothing and is not being loaded
abbrev pub is_free : EntryView → Bool
is_free views.Free = true
is_free _ = false

-- the frame takes part in an EWB or ELDU that has started
abbrev pub is_busy : EntryView → Bool
is_busy views.Free = false
is_busy (views.Loading page) = true
is_busy (views.Valid page kind perm blocked sealing) = sealing

-- the frame holds a page
abbrev pub is_valid : EntryView → Bool
is_valid (views.Valid page kind perm blocked sealing) = true
is_valid _ = false

-- the page is being written out
abbrev pub goes_out : EntryView → Bool
goes_out (views.Valid page kind perm blocked sealing) = sealing
goes_out _ = false

-- the epoch of the page's block
abbrev pub block_of : EntryView → Option ℕ
block_of (views.Valid page kind perm blocked sealing) = blocked
block_of _ = None

-- a page that is neither blocked nor sealing
abbrev pub holding : Page → Kind → Perm → EntryView
holding page kind perm = views.Valid page kind perm None false

-- the same page, blocked at an epoch
abbrev pub with_block : EntryView → ℕ → EntryView
with_block (views.Valid page kind perm blocked sealing) epoch = views.Valid page kind perm (Some epoch) sealing
with_block entry epoch = entry

-- the same page, sealing
abbrev pub outgoing : EntryView → EntryView
outgoing (views.Valid page kind perm blocked sealing) = views.Valid page kind perm blocked true
outgoing entry = entry

-- what a claim of the frame answers: a busy one is refused
abbrev pub claim_answer : EntryView → Result (Unit {0}) Refusal
claim_answer entry = if is_busy entry then Err why.Conflict else Ok tt
