-- The state of one enclave as contracts see it: its pages and the marks of its TCS pages stand in lists by page number.
use Rattle.std.specs.Prelude.{◌≡◌, ℕ, ◌/◌, Bool, true, false, List, length, replicate, Option, None, Some, slice_index_or}
use Rattle.std.specs.Prelude.{slice_set}
use Rattle.sgx_types.specs.declared.names.Frame.{Frame}
use Rattle.sgx_types.specs.declared.names.Kind.{Kind}
use Rattle.sgx_types.specs.declared.names.Perm.{Perm}
use Rattle.sgx_types.specs.Lawful.{is_lawful}

pub record SecsState : Type 0 where
  pub enclave : ℕ
  pub base : ℕ
  pub size : ℕ
  pub is_init : Bool
  pub pages : List (Option (Kind × Perm))
  pub busy : List Bool
  pub children : ℕ
  pub frame : Option Frame

-- how many pages a range of this size has
abbrev pub page_count : ℕ → ℕ
page_count size = size / 4096

-- an enclave without pages
abbrev pub created : ℕ → ℕ → ℕ → SecsState
created enclave base size = record {
  enclave = enclave;
  base = base;
  size = size;
  is_init = false;
  pages = replicate (page_count size) None;
  busy = replicate (page_count size) false;
  children = 0;
  frame = None;
}

-- the kind and the permissions with which a page was added
abbrev pub added_at : SecsState → ℕ → Option (Kind × Perm)
added_at secs number = slice_index_or secs.pages number None

-- a processor is inside by the page
abbrev pub is_busy_at : SecsState → ℕ → Bool
is_busy_at secs number = slice_index_or secs.busy number false

-- the enclave initialised
abbrev pub with_init : SecsState → SecsState
with_init secs = record secs { is_init = true }

-- a page more
abbrev pub with_page : SecsState → ℕ → Kind → Perm → SecsState
with_page secs number kind perm = record secs { pages = slice_set secs.pages number (Some (kind, perm)) }

-- a page's mark
abbrev pub with_busy : SecsState → ℕ → Bool → SecsState
with_busy secs number mark = record secs { busy = slice_set secs.busy number mark }

-- the frame that holds its SECS, if one does
abbrev pub with_frame : SecsState → Option Frame → SecsState
with_frame secs frame = record secs { frame = frame }

-- the number of resident pages
abbrev pub with_children : SecsState → ℕ → SecsState
with_children secs count = record secs { children = count }

-- the range is lawful, and each page of it has its place
pub record IsSecs (secs : SecsState) : Type 0 where
  pub lawful : is_lawful secs.base secs.size ≡ true
  pub pages : length secs.pages ≡ page_count secs.size
  pub busy : length secs.busy ≡ page_count secs.size
