-- What a walk over the entries keeps of each processor.
use Rattle.std.specs.Prelude.{ℕ, ◌≡◌, ◌-◌, ◌^◌, ◌<◌, List, length, slice_index_or}
use Rattle.sgx_rules.specs.declared.entries.Entry.{Entry}
use Rattle.job_grammar.specs.Jobs.{JobView}
use Rattle.script_rules.specs.Script.{is_interrupted, replied}
use Rattle.page_commands.specs.Summary.{xadds}
use Rattle.page_commands.specs.declared.exchanges.Progress.{Progress}

pub record IsProgress (past : List Entry) (p : ℕ) (own : Progress) : Type 0 where
  pub replied : own.replied ≡ replied past p
  pub interrupted : own.is_interrupted ≡ is_interrupted past p

-- by the processor's number
abbrev pub AreProgress : List Entry → List Progress → Type 0
AreProgress past all = (p : ℕ) (d : Progress) → p < length all → IsProgress past p (slice_index_or all p d)

-- each can count one reply more
abbrev pub HaveRoom : List Progress → Type 0
HaveRoom all = (p : ℕ) (d : Progress) → p < length all → (slice_index_or all p d).replied < 2 ^ 64 - 1

-- what a walk over the entries so far has
pub record Counts (j : JobView) (past : List Entry) (all : List Progress) (counted : ℕ) : Type 0 where
  pub progress : AreProgress past all
  pub many : length all ≡ length j.scripts
  pub count : counted ≡ xadds j past
