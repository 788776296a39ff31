-- The words of pages by flat memory, behind entries that stand newest first.
use Rattle.std.specs.Prelude.{ℕ, List, Option, Some, None, slice_index}
use Rattle.sgx_types.specs.declared.names.Page.{Page}
use Rattle.sgx_rules.specs.declared.entries.Entry.{Entry}
use Rattle.sgx_rules.specs.Flat.{FlatPage, FlatMemory, flat}

-- a word of a page, None where the page was not added
abbrev pub word_of : Option FlatPage → ℕ → Option ℕ
word_of None k = None
word_of (Some x) k = Some (slice_index x.words k)

-- .. in flat memory
abbrev pub word_in : FlatMemory → Page → ℕ → Option ℕ
word_in m g k = word_of (m.pages g) k

-- .. behind entries
abbrev pub word : List Entry → Page → ℕ → Option ℕ
word past g k = word_in (flat past) g k
