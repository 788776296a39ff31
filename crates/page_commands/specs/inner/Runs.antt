-- Why there is no job.
use Rattle.std.specs.Prelude.{ℕ, ◌≡◌, List, Option, Err}
use Rattle.job_text.specs.declared.refusals.Fault.{Fault}
use Rattle.job_text.specs.Reading.{read}
use Rattle.trace_file.specs.Reading.{OfRead}
use Rattle.page_commands.specs.declared.jobs.Unread.{Unread}
use Rattle.page_commands.specs.declared.jobs.Unread.TheVariants.{Bad}

-- if there is no job for a fault of its text, it is what reading the bytes gives
abbrev pub IsFaultOf : Option (List ℕ) → Unread → Type 0
IsFaultOf left (Bad fault) = OfRead left (λ bytes. read bytes ≡ Err fault)
IsFaultOf left _ = Unit {0}

-- there is no job for a fault of its text, and this of it
abbrev pub IsFaultAnd : Unread → (Fault → Type 0) → Type 0
IsFaultAnd (Bad fault) P = P fault
IsFaultAnd _ P = ⊥
