-- Which pages enclave code accesses in a trace, and how many reloads the trace made. Entries stand newest first.
use Rattle.std.specs.Prelude.{ℕ, ◌+◌, ◌-◌, Bool, true, false, if◌then◌else◌, List, [], ◌∷◌, ◌++◌, Option, Some}
use Rattle.std.specs.Prelude.{None, length}
use Rattle.sgx_rules.specs.declared.entries.Entry.{Entry}
use Rattle.sgx_rules.specs.declared.entries.Event.{Event}
use Rattle.sgx_rules.specs.declared.entries.Event.TheVariants.{Did}
use Rattle.sgx_types.specs.declared.names.Actor.{Actor}
use Rattle.sgx_types.specs.declared.names.Actor.TheVariants as actors
use Rattle.sgx_rules.specs.declared.entries.Action.TheVariants.{Load, Store, Xadd, Eld}
use Rattle.sgx_rules.specs.declared.entries.Answer.TheVariants.{Moved}
use Rattle.sgx_types.specs.declared.names.Kind.{Kind}
use Rattle.sgx_types.specs.declared.names.Kind.TheVariants as kinds
use Rattle.sgx_types.specs.declared.names.Page.{Page}
use Rattle.sgx_types.specs.declared.names.Perm.{Perm}
use Rattle.sgx_rules.specs.Flat.{at_offset}
use Rattle.sgx_rules.specs.Frames.{added}
use Rattle.sgx_rules.specs.Processors.{Stay, stay}
use Rattle.job_grammar.specs.Jobs.{JobView, va_pages}

-- ---- accesses

-- the offset of a done access
abbrev pub offset_of : Event → Option ℕ
offset_of (Did (Load off) answer) = Some off
offset_of (Did (Store off value) answer) = Some off
offset_of (Did (Xadd off value) answer) = Some off
offset_of event = None

-- the page of that offset in the enclave that a processor is inside, none where it is outside
abbrev pub page_inside : Option Stay → Option ℕ → List Page
page_inside (Some s) (Some off) = at_offset s.seat.enclave off ∷ []
page_inside _ _ = []

-- the page that an entry accesses, where its processor is inside an enclave
abbrev pub accessed : List Entry → Actor → Event → List Page
accessed past (actors.Cpu p) event = page_inside (stay past p.0) (offset_of event)
accessed past _ event = []

-- the accessed pages, the oldest access first
abbrev pub accesses_of : List Entry → List Page
accesses_of [] = []
accesses_of (e ∷ past) = accesses_of past ++ accessed past e.actor e.event

-- ---- reloads

abbrev pub is_reg_page : Option (Kind × Perm) → Bool
is_reg_page (Some (kinds.Reg, perm)) = true
is_reg_page _ = false

-- a REG page is brought back
abbrev pub brings_back : List Entry → Event → Bool
brings_back past (Did (Eld f) (Moved page version tag)) = is_reg_page (added past page)
brings_back past _ = false

-- how many reloads of REG pages there were
abbrev pub made : List Entry → ℕ
made [] = 0
made (e ∷ past) = made past + (if brings_back past e.event then 1 else 0)

-- ---- frames

-- the frames that enclaves' pages can have: those that hold neither a version array page nor an enclave's SECS
abbrev pub page_frames : JobView → ℕ
page_frames j = j.epc - va_pages j - length j.enclaves
