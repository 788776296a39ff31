-- What is kept of who is inside, and when it is that of entries.
use Rattle.std.specs.Prelude.{◌≡◌, ℕ, ◌≤◌, ◌==◌, ◌&&◌, Bool, false, List, Option, Some, None}
use Rattle.sgx_rules.specs.declared.entries.Entry.{Entry}
use Rattle.sgx_types.specs.declared.names.Page.{Page}
use Rattle.trace_query.specs.declared.insides.Insides.{Insides}
use Rattle.trace_query.specs.declared.processors.Processors.{Processors}
use Rattle.trace_query.specs.declared.steps.Step.{Step}
use Rattle.trace_query.specs.Spans.{is_any_below}
use Rattle.trace_query.specs.inner.Sights.{Sight, outside, sight, sight_in, sight_after, is_among}

abbrev pub is_in : Option ℕ → ℕ → Bool
is_in None enclave = false
is_in (Some here) enclave = here == enclave

-- a processor with this sight caches a page
abbrev pub sees : Sight → ℕ → ℕ → Bool
sees s enclave n = is_in s.enclave enclave && is_among s.numbers n

-- a processor below number k is inside an enclave
abbrev pub entered_below : ℕ → Processors → ℕ → Bool
entered_below k known enclave = is_any_below k (λ p. is_in (sight_in known p).enclave enclave)

-- .. or caches a page
abbrev pub cached_below : ℕ → Processors → Page → Bool
cached_below k known g = is_any_below k (λ p. sees (sight_in known p) g.enclave g.number)

-- the processors from here on are outside
abbrev pub AreOutside : ℕ → Processors → Type 0
AreOutside k known = (p : ℕ) → k ≤ p → sight_in known p ≡ outside

-- what is kept is that of these entries
pub record InsidesFollow (known : Insides) (past : List Entry) : Type 0 where
  pub sights : (p : ℕ) → sight_in known.processors p ≡ sight past p
  pub most : known.cpus ≤ 256
  pub outside : AreOutside known.cpus known.processors

-- a step is made
pub record InsidesMake (old : Insides) (step : Option Step) (new : Insides) : Type 0 where
  pub sights : (p : ℕ) → sight_in new.processors p ≡ sight_after step p (sight_in old.processors p)
  pub most : old.cpus ≤ 256 → new.cpus ≤ 256
  pub outside : AreOutside old.cpus old.processors → AreOutside new.cpus new.processors
