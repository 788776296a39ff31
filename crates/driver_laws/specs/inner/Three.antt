-- The three pages that a processor needs at once, of which all that it holds are.
use Rattle.std.specs.Prelude.{ℕ, Bool, false, ◌≡◌, ◌==◌, ◌<◌, ◌+◌, ◌⊎◌, true, List, [], ◌∷◌, ◌++◌, Option, Some, None, is_some}
use Rattle.std.specs.List.{list_any}
use Rattle.sgx_rules.specs.declared.entries.Entry.{Entry}
use Rattle.sgx_types.specs.declared.names.Page.{Page}
use Rattle.sgx_types.specs.Pages.{is_own_page, is_va_page, page_at, same_page}
use Rattle.sgx_rules.specs.Frames.{vas_made}
use Rattle.sgx_rules.specs.Processors.{Stay, stay}
use Rattle.job_grammar.specs.declared.jobs.Op.{Op}
use Rattle.job_grammar.specs.Jobs.{JobView, lines_at, tcs_line}
use Rattle.script_rules.specs.Script.{is_interrupted, saved_frames, script_of}
use Rattle.driver_rules.specs.Holds.{holds, is_among}
use Rattle.driver_rules.specs.Needs.{access_page, Interruption, interruption, last_save, listed, needs_of, next_op}
use Rattle.job_grammar.specs.declared.jobs.Op.TheVariants as ops

-- the TCS page, the state save page that was used last where so many are in use, and the page of the access
abbrev pub pages_by : JobView → ℕ → ℕ → ℕ → Op → List Page
pages_by j enclave tcs n op =
    page_at enclave tcs ∷ listed (last_save enclave n (tcs_line (lines_at j.enclaves enclave) tcs)) ++ listed
    (access_page enclave (Some op))

-- inside, the state save page is the one that an exit uses
abbrev pub three_by : JobView → List Entry → Option Stay → Option Interruption → Option Op → List Page
three_by j past s i None = []
three_by j past (Some s) i (Some op) = pages_by j s.seat.enclave s.seat.tcs (saved_frames past (page_at s.seat.enclave s.seat.tcs) + 1) op
three_by j past None (Some i) (Some op) = pages_by j i.enclave i.tcs (saved_frames past (page_at i.enclave i.tcs)) op
three_by j past None None (Some op) = needs_of j past (Some op)

abbrev pub three : JobView → List Entry → ℕ → List Page
three j past p = three_by j past (stay past p) (interruption past p) (next_op j past p)

-- the TCS page that a processor is inside by, was interrupted by, or names next
abbrev pub tcs_named : Option Op → Option Page
tcs_named (Some (ops.Enter enclave tcs)) = Some (page_at enclave tcs)
tcs_named (Some (ops.Resume enclave tcs)) = Some (page_at enclave tcs)
tcs_named _ = None

abbrev pub tcs_by : Option Stay → Option Interruption → Option Op → Option Page
tcs_by (Some s) i op = Some (page_at s.seat.enclave s.seat.tcs)
tcs_by None (Some i) op = Some (page_at i.enclave i.tcs)
tcs_by None None op = tcs_named op

abbrev pub tcs_of : JobView → List Entry → ℕ → Option Page
tcs_of j past p = tcs_by (stay past p) (interruption past p) (next_op j past p)

abbrev pub AreAmong : List Page → List Page → Type 0
AreAmong pages others = (g : Page) → is_among pages g ≡ true → is_among others g ≡ true

-- a version array page that was made, but the first
pub record IsLaterArray (past : List Entry) (g : Page) : Type 0 where
  pub va : is_va_page g ≡ true
  pub later : (g.number == 0) ≡ false
  pub made : g.number < vas_made past

-- what a processor holds of TCS and REG pages is of these; it has still to resume exactly where it was interrupted, and is outside then
pub record HoldsThree (j : JobView) (past : List Entry) (p : ℕ) : Type 0 where
  pub held : (g : Page) → is_among (holds j past p) g ≡ true → is_own_page g ≡ true → is_among (three j past p) g ≡ true
  -- .. and of other pages, beside those that are among the three, version array pages that it brought back, never the first
  pub arrays : (g : Page) → is_among (holds j past p) g ≡ true → is_own_page g ≡ false
      → (is_among (three j past p) g ≡ true) ⊎ IsLaterArray past g
  pub interrupted : is_interrupted past p ≡ is_some (interruption past p)
  pub apart : is_some (stay past p) ≡ true → interruption past p ≡ None

-- ---- whose TCS pages these are

abbrev pub is_tcs_of : Op → Page → Bool
is_tcs_of (ops.Enter enclave tcs) g = same_page (page_at enclave tcs) g
is_tcs_of (ops.Resume enclave tcs) g = same_page (page_at enclave tcs) g
is_tcs_of _ g = false

-- a processor's script names the TCS page
abbrev pub names_tcs : JobView → ℕ → Page → Bool
names_tcs j p g = list_any (λ op. is_tcs_of op g) (script_of j p)

-- no two scripts name one TCS page
abbrev pub TcsAreApart : JobView → Type 0
TcsAreApart j = (p q : ℕ) (g : Page) → names_tcs j p g ≡ true → names_tcs j q g ≡ true → p ≡ q

-- a processor is inside by, and has still to resume by, a page that its script names
pub record NamesOwn (j : JobView) (past : List Entry) (p : ℕ) : Type 0 where
  pub seat : (s : Stay) → stay past p ≡ Some s → names_tcs j p (page_at s.seat.enclave s.seat.tcs) ≡ true
  pub broken : (i : Interruption) → interruption past p ≡ Some i → names_tcs j p (page_at i.enclave i.tcs) ≡ true

pub record IsApart (j : JobView) (past : List Entry) (p : ℕ) : Type 0 where
  pub three : HoldsThree j past p
  pub own : NamesOwn j past p
