-- Flat memory's parts as data, and the memory that they make.
use Rattle.std.specs.Prelude.{ℕ, ◌/◌, Bool, false, List, [], Option, Some, None, slice_index_or, slice_set, replicate}
use Rattle.sgx_types.specs.declared.names.Page.{Page}
use Rattle.sgx_types.specs.declared.names.Kind.{Kind}
use Rattle.sgx_types.specs.declared.names.Perm.{Perm}
use Rattle.sgx_rules.specs.Frames.{Content, Free, Holds}
use Rattle.sgx_rules.specs.Flat as flat
use Rattle.sgx_types.specs.declared.layouts.TcsFields.{TcsFields}
use Rattle.sgx_rules.specs.Table.{TcsSight}
use Rattle.flat_machine.specs.declared.flat.Enclave.{Enclave}
use Rattle.flat_machine.specs.declared.flat.Mode.{Mode}
use Rattle.flat_machine.specs.declared.flat.Mode.TheVariants.{Outside, Inside}
use Rattle.flat_machine.specs.declared.flat.Processor.{Processor}
use Rattle.flat_machine.specs.declared.table.Added.{Added}
use Rattle.flat_machine.specs.declared.table.PlainPage.{PlainPage}

-- the enclaves and the pages of each by the enclave's number, and the processors
pub record FlatParts : Type 0 where
  pub enclaves : List (Option Enclave)
  pub tables : List (List (Option PlainPage))
  pub cpus : List Processor

-- ---- pages

-- how a page was added
abbrev pub added_in : Option PlainPage → Option Added
added_in None = None
added_in (Some x) = Some (record { kind = x.kind; perm = x.perm })

-- .. as a pair
abbrev pub kind_of : Option Added → Option (Kind × Perm)
kind_of None = None
kind_of (Some x) = Some (x.kind, x.perm)

-- the page in its frame, as the rows see it
abbrev pub content_in : Page → Option Added → Content
content_in g None = Free
content_in g (Some x) = Holds g x.kind x.perm

-- a processor is inside by the page
abbrev pub busy_of : Option PlainPage → Bool
busy_of None = false
busy_of (Some x) = x.is_busy

-- the words of a page, all zero where it was not added
abbrev pub words_in : Option PlainPage → List ℕ
words_in None = replicate 512 0
words_in (Some x) = x.words

-- a page with a word written, nothing where it was not added
abbrev pub with_word : Option PlainPage → ℕ → ℕ → Option PlainPage
with_word None index value = None
with_word (Some x) index value = Some (record x { words = slice_set x.words index value })

-- a page marked busy or not, nothing where it was not added
abbrev pub with_busy_mark : Option PlainPage → Bool → Option PlainPage
with_busy_mark None is_busy = None
with_busy_mark (Some x) is_busy = Some (record x { is_busy = is_busy })

-- the page as flat memory has it
abbrev pub page_of : Option PlainPage → Option flat.FlatPage
page_of None = None
page_of (Some x) = Some (record { kind = x.kind; perm = x.perm; words = x.words })

-- a page that was added, None where it was not
abbrev pub look : List (List (Option PlainPage)) → Page → Option PlainPage
look tables g = slice_index_or (slice_index_or tables g.enclave []) g.number None

-- the tables with a page's place written
abbrev pub with_slot : List (List (Option PlainPage)) → ℕ → ℕ → Option PlainPage → List (List (Option PlainPage))
with_slot tables enclave number x = slice_set tables enclave (slice_set (slice_index_or tables enclave []) number x)

-- ---- enclaves and processors

-- the enclave as flat memory has it
abbrev pub enclave_of : Option Enclave → Option flat.FlatEnclave
enclave_of None = None
enclave_of (Some x) = Some (record { base = x.base; size = x.size; is_init = x.is_init })

-- a processor outside, with accumulator 0
abbrev pub idle : Processor
idle = record { mode = Outside; acc = 0 }

-- the enclave and the TCS page by which a processor is inside
abbrev pub inside_of : Mode → Option flat.Inside
inside_of Outside = None
inside_of (Inside enclave tcs) = Some (record { enclave = enclave; tcs = tcs })

-- inside an enclave by a TCS page
abbrev pub seat : ℕ → ℕ → flat.Inside
seat enclave tcs = record { enclave = enclave; tcs = tcs }

-- the processor as flat memory has it
abbrev pub cpu_of : Processor → flat.FlatCpu
cpu_of x = record { inside = inside_of x.mode; acc = x.acc }

-- the fields of a TCS page as the rows see them, with OSSA in pages
abbrev pub fields_of : TcsFields → TcsSight
fields_of f = record { ossa = f.ossa / 4096; cssa = f.cssa; nssa = f.nssa }

-- ---- the memory

-- the flat memory that the parts make
abbrev pub memory_of : FlatParts → flat.FlatMemory
memory_of d = record {
  enclaves = λ e. enclave_of (slice_index_or d.enclaves e None);
  pages = λ g. page_of (look d.tables g);
  is_busy = λ g. busy_of (look d.tables g);
  cpus = λ p. cpu_of (slice_index_or d.cpus p idle);
}
