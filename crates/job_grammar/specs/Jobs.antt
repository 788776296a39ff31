-- Jobs as contracts see them, and what their lines say.
use Rattle.std.specs.Prelude.{ℕ, zero, suc, ◌==◌, ◌+◌, ◌*◌, ◌/◌, ◌&&◌, Bool, true, false, min, List, [], Option, Some}
use Rattle.std.specs.Prelude.{None, length, sum_by, nat_le, nat_lt, slice_get, find}
use Rattle.std.specs.List.{list_any}
use Rattle.io_edges.specs.declared.plans.PlanLine.{PlanLine}
use Rattle.job_grammar.specs.declared.jobs.Marks.{Marks}
use Rattle.job_grammar.specs.declared.jobs.PageLine.{PageLine}
use Rattle.job_grammar.specs.declared.jobs.PageLine.TheVariants.{Tcs, Reg}
use Rattle.job_grammar.specs.declared.jobs.Op.{Op}
use Rattle.job_grammar.specs.declared.jobs.Op.TheVariants.{Enter, Resume}

pub record EnclaveView : Type 0 where
  pub base : ℕ
  pub size : ℕ
  pub lines : List PageLine
  pub expect : Option (List ℕ)

pub record JobView : Type 0 where
  pub epc : ℕ
  pub marks : Marks
  pub key : List ℕ
  pub start_epoch : ℕ
  pub start_version : ℕ
  pub enclaves : List EnclaveView
  pub plans : List PlanLine
  pub scripts : List (List Op)

-- ---- pages

-- a line adds the page of this number
abbrev pub covers : ℕ → PageLine → Bool
covers n (Tcs page ossa nssa plain) = page == n
covers n (Reg first count perm value plain) = nat_le first n && nat_lt n (first + count)

abbrev pub is_tcs_line : PageLine → Bool
is_tcs_line (Tcs page ossa nssa plain) = true
is_tcs_line _ = false

-- a line of pages that hold saved state: REG pages with R and W
abbrev pub is_save_line : PageLine → Bool
is_save_line (Reg first count perm value plain) = perm.r && perm.w
is_save_line _ = false

abbrev pub is_tcs_page : List PageLine → ℕ → Bool
is_tcs_page lines n = list_any (λ line. is_tcs_line line && covers n line) lines

abbrev pub is_save_page : List PageLine → ℕ → Bool
is_save_page lines n = list_any (λ line. is_save_line line && covers n line) lines

-- an enclave by its number from 1
abbrev pub enclave_at : List EnclaveView → ℕ → Option EnclaveView
enclave_at es zero = None
enclave_at es (suc n) = slice_get es n

abbrev pub lines_in : Option EnclaveView → List PageLine
lines_in None = []
lines_in (Some e) = e.lines

abbrev pub lines_at : List EnclaveView → ℕ → List PageLine
lines_at es n = lines_in (enclave_at es n)

-- the first page that a line adds
abbrev pub first_page : PageLine → ℕ
first_page (Tcs page ossa nssa plain) = page
first_page (Reg first count perm value plain) = first

-- how many pages a line adds
abbrev pub page_count : PageLine → ℕ
page_count (Tcs page ossa nssa plain) = 1
page_count (Reg first count perm value plain) = count

abbrev pub enclave_pages : EnclaveView → ℕ
enclave_pages e = sum_by page_count e.lines

abbrev pub job_pages : JobView → ℕ
job_pages j = sum_by enclave_pages j.enclaves

-- the line of a TCS page
abbrev pub tcs_line : List PageLine → ℕ → Option PageLine
tcs_line lines n = find (λ line. is_tcs_line line && covers n line) lines

-- ---- operations

-- an operation names the TCS page of this number of an enclave
abbrev pub names_tcs : ℕ → ℕ → Op → Bool
names_tcs enclave number (Enter e tcs) = (e == enclave) && (tcs == number)
names_tcs enclave number (Resume e tcs) = (e == enclave) && (tcs == number)
names_tcs enclave number _ = false

-- an operation of a script does
abbrev pub script_names : ℕ → ℕ → List Op → Bool
script_names enclave number script = list_any (names_tcs enclave number) script

-- ---- frames

-- how many version array pages the builder makes: slots for every page, every enclave and these pages themselves
abbrev pub va_pages : JobView → ℕ
va_pages j = (job_pages j + length j.enclaves) / 500 + 1

-- the least EPC that lets each processor have the three pages that it needs at once, beside what never leaves
abbrev pub needed : JobView → ℕ
needed j = length j.enclaves + va_pages j + 3 * length j.scripts + 1

-- the marks of a job that gives none: those of Linux's driver, or less where the EPC is small
abbrev pub default_marks : ℕ → Marks
default_marks n = record { low = min 32 (n / 4); high = min 64 (n / 2); scan = min 16 (n / 4) }
