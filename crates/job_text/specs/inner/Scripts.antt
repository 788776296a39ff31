-- The scripts of a job as their lines are read, and the table that tells which of them names a TCS page first.
use Rattle.std.specs.Prelude.{◌≡◌, ℕ, ◌+◌, ◌*◌, ◌<◌, ◌≤◌, Bool, List, [], ◌∷◌, Option, Some, None}
use Rattle.std.specs.Prelude.{if◌then◌else◌, length, slice_index_or, vec_len}
use Rattle.std.specs.Option.{option_map}
use Rattle.job_grammar.specs.declared.jobs.Op.{Op}
use Rattle.job_grammar.specs.declared.jobs.Op.TheVariants.{Enter, Resume}
use Rattle.job_grammar.specs.Jobs.{script_names}
use Rattle.job_grammar.specs.inner.Jobs.{script_ops}
use Rattle.job_text.specs.declared.scripts.Scripts.TheInside.{Inside}

abbrev pub view_of : Inside → List (List Op)
view_of s = script_ops s.scripts.items

-- the index of the first that passes
abbrev pub first_at : {X : Type 0} → (X → Bool) → List X → Option ℕ
first_at p [] = None
first_at p (x ∷ xs) = if p x then Some 0 else option_map (λ n. n + 1) (first_at p xs)

-- the table has a place for each page that an enclave can have, the enclaves one behind the other
abbrev pub owner_at : List (Option ℕ) → ℕ → ℕ → Option ℕ
owner_at owners enclave number = slice_index_or owners (enclave * 4096 + number) None

-- a page that an operation names has a place in the table
abbrev pub AreSmall : Op → Type 0
AreSmall (Enter enclave tcs) = (enclave ≤ 8) × (tcs < 4096)
AreSmall (Resume enclave tcs) = (enclave ≤ 8) × (tcs < 4096)
AreSmall _ = Unit {0}

-- the table tells of each page the script that names it first
pub record AreScriptsKept (s : Inside) : Type 0 where
  pub sized : vec_len s.owners ≡ 9 * 4096
  pub few : length (script_ops s.scripts.items) ≤ 16
  pub tells : (enclave number : ℕ) → enclave ≤ 8 → number < 4096
      → owner_at s.owners.items enclave number ≡ first_at (script_names enclave number) (script_ops s.scripts.items)
