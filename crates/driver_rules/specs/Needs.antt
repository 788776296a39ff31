-- Which pages a processor needs before it can go on, in the order in which the driver brings them back.
use Rattle.std.specs.Prelude.{ℕ, ◌==◌, ◌+◌, ◌-◌, Bool, true, false, if◌then◌else◌, List, [], ◌∷◌, ◌++◌}
use Rattle.std.specs.Prelude.{Option, Some, None, slice_get}
use Rattle.sgx_rules.specs.declared.entries.Entry.{Entry}
use Rattle.sgx_rules.specs.declared.entries.Event.{Event}
use Rattle.sgx_rules.specs.declared.entries.Event.TheVariants.{Did}
use Rattle.sgx_rules.specs.declared.entries.Action.TheVariants.{Enter, Resume, Exit, Aex}
use Rattle.sgx_rules.specs.declared.entries.Cause.{Cause}
use Rattle.sgx_rules.specs.declared.entries.Cause.TheVariants as causes
use Rattle.sgx_types.specs.declared.names.Page.{Page}
use Rattle.sgx_rules.specs.Flat.{at_offset}
use Rattle.sgx_types.specs.Pages.{page_at}
use Rattle.sgx_rules.specs.Processors.{Stay, is_by, stay}
use Rattle.job_grammar.specs.declared.jobs.Op.{Op}
use Rattle.job_grammar.specs.declared.jobs.Op.TheVariants as ops
use Rattle.job_grammar.specs.declared.jobs.PageLine.{PageLine}
use Rattle.job_grammar.specs.declared.jobs.PageLine.TheVariants as lines
use Rattle.job_grammar.specs.Jobs.{JobView, lines_at, tcs_line}
use Rattle.script_rules.specs.Script.{replied, saved_frames, script_of}

-- ---- interruptions

-- the system took a processor out of an enclave: by which TCS page it was inside, and whether it left for the page of its access
pub record Interruption : Type 0 where
  pub enclave : ℕ
  pub tcs : ℕ
  pub for_page : Bool

abbrev pub interrupted_in : Option Stay → Bool → Option Interruption
interrupted_in None for_page = None
interrupted_in (Some s) for_page = Some (record { enclave = s.seat.enclave; tcs = s.seat.tcs; for_page = for_page })

abbrev pub interrupted_by : Cause → Option Stay → Option Interruption
interrupted_by causes.Fault s = interrupted_in s true
interrupted_by causes.Kick s = interrupted_in s false
interrupted_by _ s = None

abbrev pub interruption_after : Event → Option Stay → Option Interruption → Option Interruption
interruption_after (Did (Enter enclave tcs tf sf) answer) s before = None
interruption_after (Did (Resume enclave tcs tf sf) answer) s before = None
interruption_after (Did Exit answer) s before = None
interruption_after (Did (Aex cause) answer) s before = interrupted_by cause s
interruption_after _ s before = before

-- the interruption after which a processor has still to resume
abbrev pub interruption : List Entry → ℕ → Option Interruption
interruption [] p = None
interruption (e ∷ past) p = if is_by p e.actor then interruption_after e.event (stay past p) (interruption past p) else interruption past p

-- ---- the operation that has no reply yet

abbrev pub next_op : JobView → List Entry → ℕ → Option Op
next_op j past p = slice_get (script_of j p) (replied past p)

-- the page of an access in this enclave
abbrev pub access_page : ℕ → Option Op → Option Page
access_page enclave (Some (ops.Load off)) = Some (at_offset enclave off)
access_page enclave (Some (ops.Store off value)) = Some (at_offset enclave off)
access_page enclave (Some (ops.Xadd off value)) = Some (at_offset enclave off)
access_page enclave _ = None

abbrev pub listed : Option Page → List Page
listed None = []
listed (Some g) = g ∷ []

-- ---- state save pages

-- the one that an entry by a TCS page takes, None where all are in use
abbrev pub next_save : ℕ → ℕ → Option PageLine → Option Page
next_save enclave n (Some (lines.Tcs page ossa nssa plain)) = if n == nssa then None else Some (page_at enclave (ossa + n))
next_save enclave n _ = None

-- the one that was used last, None where none is in use
abbrev pub last_save : ℕ → ℕ → Option PageLine → Option Page
last_save enclave n (Some (lines.Tcs page ossa nssa plain)) = if n == 0 then None else Some (page_at enclave (ossa + n - 1))
last_save enclave n _ = None

abbrev pub save_to_enter : JobView → List Entry → ℕ → ℕ → Option Page
save_to_enter j past enclave tcs = next_save enclave (saved_frames past (page_at enclave tcs)) (tcs_line (lines_at j.enclaves enclave) tcs)

abbrev pub save_to_resume : JobView → List Entry → ℕ → ℕ → Option Page
save_to_resume j past enclave tcs = last_save enclave (saved_frames past (page_at enclave tcs)) (tcs_line (lines_at j.enclaves enclave) tcs)

-- ---- needs

abbrev pub needs_to_enter : JobView → List Entry → ℕ → ℕ → List Page
needs_to_enter j past enclave tcs = page_at enclave tcs ∷ listed (save_to_enter j past enclave tcs)

abbrev pub needs_to_resume : JobView → List Entry → ℕ → ℕ → List Page
needs_to_resume j past enclave tcs = page_at enclave tcs ∷ listed (save_to_resume j past enclave tcs)

-- the TCS page, the state save page that was used last, and behind a fault the page of the access
abbrev pub needs_after : JobView → List Entry → ℕ → Interruption → List Page
needs_after j past p i =
    needs_to_resume j past i.enclave i.tcs ++ (if i.for_page then listed (access_page i.enclave (next_op j past p)) else [])

abbrev pub needs_of : JobView → List Entry → Option Op → List Page
needs_of j past (Some (ops.Enter enclave tcs)) = needs_to_enter j past enclave tcs
needs_of j past (Some (ops.Resume enclave tcs)) = needs_to_resume j past enclave tcs
needs_of j past _ = []

abbrev pub needs_by : JobView → List Entry → ℕ → Option Interruption → List Page
needs_by j past p (Some i) = needs_after j past p i
needs_by j past p None = needs_of j past (next_op j past p)

-- the pages that a processor outside needs, in their order
abbrev pub needs : JobView → List Entry → ℕ → List Page
needs j past p = needs_by j past p (interruption past p)
