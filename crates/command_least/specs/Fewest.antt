-- The fewest loads for the accesses of a trace, and the text that tells them beside the reloads that were made.
use Rattle.std.specs.Prelude.{ℕ, ◌≡◌, ◌≤◌, List, [], ◌∷◌, codes, flat_map, length}
use Rattle.std.specs.Fmt.{decimal}
use Rattle.sgx_rules.specs.declared.entries.Entry.{Entry}
use Rattle.sgx_types.specs.declared.names.Page.{Page}
use Rattle.job_grammar.specs.Jobs.{JobView}
use Rattle.least_reloads.specs.Plans.{PlanView, IsLawful}
use Rattle.text_words.specs.Words.{Words, line_text}
use Rattle.command_least.specs.Accesses.{accesses_of, page_frames, made}

-- some lawful plan for these accesses and frames makes so many loads, and none makes fewer
pub record IsFewest (accesses : List Page) (frames loads : ℕ) : Type 0 where
  pub plan : PlanView
  pub lawful : IsLawful accesses frames plan
  pub makes : plan.loads ≡ loads
  pub least : (other : PlanView) → IsLawful accesses frames other → loads ≤ other.loads

abbrev pub least_lines : ℕ → ℕ → ℕ → ℕ → List Words
least_lines accesses frames least made =
    (codes "accesses" ∷ decimal accesses ∷ [])
    ∷ (codes "frames" ∷ decimal frames ∷ [])
    ∷ (codes "least" ∷ decimal least ∷ [])
    ∷ (codes "made" ∷ decimal made ∷ [])
    ∷ []

unfoldable pub least_text : ℕ → ℕ → ℕ → ℕ → List ℕ
least_text accesses frames least made = flat_map line_text (least_lines accesses frames least made)

-- the text on the trace of a job: how many accesses, how many frames, the fewest loads for these, and how many reloads were made
pub record IsLeastText (j : JobView) (past : List Entry) (text : List ℕ) : Type 0 where
  pub least : ℕ
  pub fewest : IsFewest (accesses_of past) (page_frames j) least
  pub is : text ≡ least_text (length (accesses_of past)) (page_frames j) least (made past)
