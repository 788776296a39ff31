-- The state save pages of TCS pages, by enclave and then by page number.
use Rattle.std.specs.Prelude.{ℕ, ◌≡◌, ◌+◌, ◌-◌, ◌∷◌, ◌<◌, Bool, if◌then◌else◌, List, [], Option, None, Some, length, map, nat_lt}
use Rattle.std.specs.Prelude.{slice_index, slice_index_or, slice_set}
use Rattle.sgx_types.specs.declared.names.Page.{Page}
use Rattle.sgx_types.specs.Pages.{is_secs_page}
use Rattle.job_grammar.specs.declared.jobs.PageLine.{PageLine}
use Rattle.job_grammar.specs.declared.jobs.PageLine.TheVariants as lines
use Rattle.job_grammar.specs.Jobs.{EnclaveView, lines_at, tcs_line}
use Rattle.driver_list.specs.inner.Places.{PageCounts}
use Rattle.driver_tables.specs.inner.Counts.{enclave_places}
use Rattle.due_tables.specs.declared.tcs_turns.TcsTurn.{TcsTurn}

-- what stands of a page, None where it is no TCS page
abbrev pub tcs_at : List (List (Option TcsTurn)) → Page → Option TcsTurn
tcs_at turns g = slice_index_or (slice_index_or turns g.enclave []) g.number None

-- how many version array pages there are, and how many TCS and REG pages each enclave has
abbrev pub rows : PageCounts → List ℕ
rows counts = counts.arrays ∷ counts.own

-- there are so many pages of the page's enclave, or so many version array pages
pub record IsInRow (counts : List ℕ) (g : Page) : Type 0 where
  pub within : g.number < slice_index counts g.enclave

abbrev pub has_row : List (List (Option TcsTurn)) → Page → Bool
has_row turns g = nat_lt g.number (slice_index (map length turns) g.enclave)

-- .. or it is the SECS of one of the enclaves
abbrev pub has_place : List (List (Option TcsTurn)) → Page → Bool
has_place turns g =
    if is_secs_page g then nat_lt g.enclave (length turns) else has_row turns g

-- what stands of the TCS page of a line with so many of its state save pages in use
abbrev pub tcs_by : Option PageLine → ℕ → Option TcsTurn
tcs_by (Some (lines.Tcs page ossa nssa plain)) n = Some (record { ossa = ossa; nssa = nssa; saved = n })
tcs_by _ n = None

-- no state save page of these enclaves is in use
pub record IsNewTable (arrays : ℕ) (es : List EnclaveView) (table : List (List (Option TcsTurn))) : Type 0 where
  pub places : map length table ≡ arrays ∷ map enclave_places es
  pub turns : (g : Page) → tcs_at table g ≡ tcs_by (tcs_line (lines_at es g.enclave) g.number) 0

-- ---- changes

abbrev pub with_turn : List (List (Option TcsTurn)) → Page → TcsTurn → List (List (Option TcsTurn))
with_turn turns g turn = slice_set turns g.enclave (slice_set (slice_index_or turns g.enclave []) g.number (Some turn))

-- a TCS page with another turn. Every other page stays as it is
abbrev pub changed : List (List (Option TcsTurn)) → Page → (TcsTurn → TcsTurn) → Option TcsTurn → List (List (Option TcsTurn))
changed turns g change None = turns
changed turns g change (Some turn) = with_turn turns g (change turn)

-- one state save page more in use, and one fewer
abbrev pub one_more : TcsTurn → TcsTurn
one_more turn = record turn { saved = turn.saved + 1 }

abbrev pub one_less : TcsTurn → TcsTurn
one_less turn = record turn { saved = turn.saved - 1 }

abbrev pub with_more : List (List (Option TcsTurn)) → Page → List (List (Option TcsTurn))
with_more turns g = changed turns g one_more (tcs_at turns g)

abbrev pub with_less : List (List (Option TcsTurn)) → Page → List (List (Option TcsTurn))
with_less turns g = changed turns g one_less (tcs_at turns g)
