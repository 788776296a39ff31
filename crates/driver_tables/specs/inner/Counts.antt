-- How many places a table of a job's pages has.
use Rattle.std.specs.Prelude.{ℕ, ◌+◌, ◌<◌, ◌^◌, List, fold, map, max}
use Rattle.std.specs.List.{All}
use Rattle.job_grammar.specs.declared.jobs.EnclaveJob.{EnclaveJob}
use Rattle.job_grammar.specs.declared.jobs.PageLine.{PageLine}
use Rattle.job_grammar.specs.Jobs.{EnclaveView, JobView, first_page, page_count, va_pages}
use Rattle.driver_list.specs.inner.Places.{PageCounts}

-- one past the highest page number that a line names
abbrev pub line_end : PageLine → ℕ
line_end line = first_page line + page_count line

abbrev pub last_end : List PageLine → ℕ
last_end lines = fold (λ end line. max end (line_end line)) 0 lines

-- one past the highest page number of an enclave
abbrev pub enclave_places : EnclaveView → ℕ
enclave_places e = last_end e.lines

-- .. for each enclave of a job, from number 1 on
abbrev pub page_counts : JobView → List ℕ
page_counts j = map enclave_places j.enclaves

-- .. and with the version array pages
abbrev pub job_counts : JobView → PageCounts
job_counts j = record { own = page_counts j; arrays = va_pages j }

-- page numbers have 20 bits
abbrev pub IsShort : PageLine → Type 0
IsShort line = line_end line < 2 ^ 20

abbrev pub IsLow : EnclaveJob → Type 0
IsLow e = All IsShort e.lines.items
