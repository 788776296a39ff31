-- How many entries each actor made.
use Rattle.std.specs.Prelude.{ℕ, ◌+◌, ◌^◌, ◌≡◌, ◌==◌, ◌<◌, Bool, true, false, List, count_by, slice_index, vec_len}
use Rattle.sgx_types.specs.declared.names.Actor.{Actor}
use Rattle.sgx_types.specs.declared.names.Actor.TheVariants as actors
use Rattle.sgx_rules.specs.declared.entries.Entry.{Entry}
use Rattle.run_crew.specs.declared.tally.Tally.{Tally}

abbrev pub is_builder : Actor → Bool
is_builder actors.Builder = true
is_builder actor = false

abbrev pub is_reclaimer : Actor → Bool
is_reclaimer actors.Reclaimer = true
is_reclaimer actor = false

abbrev pub is_cpu : ℕ → Actor → Bool
is_cpu p (actors.Cpu cpu) = cpu.0 == p
is_cpu p actor = false

-- how many entries such an actor made
abbrev pub made_by : (Actor → Bool) → List Entry → ℕ
made_by test entries = count_by (λ e. test e.actor) entries

-- .. each actor of a job of so many processors
pub record IsTally (entries : List Entry) (cpus : ℕ) (t : Tally) : Type 0 where
  pub builder : t.builder ≡ made_by is_builder entries
  pub reclaimer : t.reclaimer ≡ made_by is_reclaimer entries
  pub each : vec_len t.cpus ≡ cpus
  pub processors : (p : ℕ) → p < cpus → slice_index t.cpus.items p ≡ made_by (is_cpu p) entries

-- ---- one entry more

-- one more can be counted of each actor
pub record IsFew (t : Tally) : Type 0 where
  pub builder : t.builder < 2 ^ 63
  pub reclaimer : t.reclaimer < 2 ^ 63
  pub processors : (p : ℕ) → p < vec_len t.cpus → slice_index t.cpus.items p < 2 ^ 63

abbrev pub once : Bool → ℕ
once true = 1
once false = 0

-- behind an entry of this actor
pub record IsMore (actor : Actor) (old new : Tally) : Type 0 where
  pub builder : new.builder ≡ old.builder + once (is_builder actor)
  pub reclaimer : new.reclaimer ≡ old.reclaimer + once (is_reclaimer actor)
  pub each : vec_len new.cpus ≡ vec_len old.cpus
  pub processors : (p : ℕ) → p < vec_len old.cpus → slice_index new.cpus.items p ≡ slice_index old.cpus.items p + once (is_cpu p actor)
