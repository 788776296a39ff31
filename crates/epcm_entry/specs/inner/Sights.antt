-- What the rows of the instruction table see of a frame.
use Rattle.std.specs.Prelude.{ℕ, List, length, nat_le, is_some}
use Rattle.sgx_types.specs.declared.names.Page.{Page}
use Rattle.sgx_types.specs.declared.names.Kind.{Kind}
use Rattle.sgx_types.specs.declared.names.Kind.TheVariants as kinds
use Rattle.sgx_types.specs.declared.names.Perm.{Perm}
use Rattle.sgx_rules.specs.Frames.{Content, Free, IsVa, SecsOf, Holds, IsLoading}
use Rattle.sgx_rules.specs.Table.{FrameSight}
use Rattle.epcm_entry.specs.declared.entry_view.EntryView.{EntryView}
use Rattle.epcm_entry.specs.declared.entry_view.EntryView.TheVariants as views
use Rattle.epcm_entry.specs.inner.EntryView.{block_of, goes_out}
use Rattle.epcm_entry.specs.inner.Epc.{EpcFrame, entry_at}

abbrev pub content_of : Page → Kind → Perm → Content
content_of page kinds.Secs perm = SecsOf page.enclave
content_of page kinds.Va perm = IsVa page.number
content_of page kinds.Tcs perm = Holds page kinds.Tcs perm
content_of page kinds.Reg perm = Holds page kinds.Reg perm

-- what an entry says that its frame holds
abbrev pub held : EntryView → Content
held views.Free = Free
held (views.Loading page) = IsLoading page
held (views.Valid page kind perm blocked sealing) = content_of page kind perm

-- what a frame holds
abbrev pub held_in : List EpcFrame → ℕ → Content
held_in epc n = held (entry_at epc n)

-- what a row sees of a frame
abbrev pub sight_in : List EpcFrame → ℕ → FrameSight
sight_in epc n = record {
  is_beyond = nat_le (length epc) n;
  content = held (entry_at epc n);
  is_sealing = goes_out (entry_at epc n);
  is_blocked = is_some (block_of (entry_at epc n));
}
