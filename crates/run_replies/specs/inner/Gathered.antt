-- What a walk over the entries gathers: how each enclave's EINIT ended, and the lines of each processor.
use Rattle.std.specs.Prelude.{ℕ, ◌≡◌, ◌==◌, ◌<◌, if◌then◌else◌, Bool, List, [], ◌∷◌, Option, Some, None, codes, flat_map, length}
use Rattle.std.specs.Prelude.{slice_index_or}
use Rattle.sgx_rules.specs.declared.entries.Entry.{Entry}
use Rattle.script_rules.specs.Script.{is_interrupted}
use Rattle.text_words.specs.Words.{Words, enclave_word, line_text}
use Rattle.run_replies.specs.OutText.{cpu_lines, enclave_lines}
use Rattle.run_replies.specs.declared.replies.Ending.{Ending}
use Rattle.run_replies.specs.declared.replies.Ending.TheVariants.{Initialised, WrongMeasurement}
use Rattle.run_replies.specs.declared.replies.Replies.{Replies}

-- ---- enclaves

abbrev pub ending_name : Ending → List ℕ
ending_name Initialised = codes "init"
ending_name WrongMeasurement = codes "badmeasure"

abbrev pub ending_lines : ℕ → Option Ending → List Words
ending_lines enclave None = []
ending_lines enclave (Some ending) = (enclave_word enclave ∷ ending_name ending ∷ []) ∷ []

-- the lines of an enclave behind an event that ended this EINIT, or none
abbrev pub ended_by : Option (ℕ × Ending) → ℕ → List Words → List Words
ended_by None enclave before = before
ended_by (Some ended) enclave before = if ended.0 == enclave then ending_lines enclave (Some ended.1) else before

-- by the enclave's number
abbrev pub line_at : List (Option Ending) → ℕ → List Words
line_at endings enclave = ending_lines enclave (slice_index_or endings enclave None)

abbrev pub AreEndings : List Entry → List (Option Ending) → Type 0
AreEndings past endings = (enclave : ℕ) → enclave < length endings → line_at endings enclave ≡ enclave_lines past enclave

-- ---- processors

abbrev pub lines_of : Replies → List ℕ
lines_of r = r.lines.items

pub record IsReplies (past : List Entry) (p : ℕ) (r : Replies) : Type 0 where
  pub lines : lines_of r ≡ flat_map line_text (cpu_lines past p)
  pub interrupted : r.is_interrupted ≡ is_interrupted past p

-- by the processor's number
abbrev pub AreReplies : List Entry → List Replies → Type 0
AreReplies past all = (p : ℕ) (d : Replies) → p < length all → IsReplies past p (slice_index_or all p d)
