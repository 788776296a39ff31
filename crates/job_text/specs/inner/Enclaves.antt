-- An enclave as its lines are read.
use Rattle.std.specs.Prelude.{◌≡◌, ◌^◌, ◌≤◌, ◌/◌, vec_len}
use Rattle.job_grammar.specs.Jobs.{EnclaveView, enclave_pages}
use Rattle.job_text.specs.inner.PageTables.{Tells}
use Rattle.job_text.specs.declared.enclaves.EnclaveDraft.TheInside.{Inside}

abbrev pub view_of : Inside → EnclaveView
view_of e = record { base = e.base; size = e.size; lines = e.lines.items; expect = e.expect }

-- the table is that of the lines, and has a place for each page that the enclave can have
pub record IsEnclaveKept (e : Inside) : Type 0 where
  pub small : e.size ≤ 2 ^ 24
  pub sized : vec_len e.table ≡ e.size / 4096
  pub tells : Tells e.table.items e.lines.items
  pub counted : e.pages ≡ enclave_pages (view_of e)
