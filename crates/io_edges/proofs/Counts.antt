-- How counts of faults go on over several calls.
use Rattle.std.proofs.Common.{ℕ, ◌<◌, ◌≤◌, ◌-◌, ◌^◌, ◌⊎◌, inl, inr, arith}
use Rattle.std.proofs.lemmas.Bool.{cases_lt}
use Rattle.io_edges.specs.Faults.{HasRisen}
use Rattle.io_edges.specs.inner.Faults.{HasCause}

-- a count that has risen is greater, or stands at its last value
pub HasRisen-cases : (old new : ℕ) → old ≤ new → HasRisen old new → (old < new) ⊎ (2 ^ 64 - 1 ≤ new)
HasRisen-cases old new later risen = elim (cases_lt old (2 ^ 64 - 1)) [ inl below ↦ inl (risen below) | inr last ↦ inr (omega arith) ]

-- a cause since then is a cause since the first, where the count has not fallen between
pub HasCause-since : {told : Type 0} (first then now : ℕ) → first ≤ then → HasCause then now told → HasCause first now told
HasCause-since first then now later cause = record {
  not_fallen = omega (arith, later, cause.not_fallen);
  risen = λ fault.
      let risen : HasRisen then now = cause.risen fault in
      let last : then ≤ now = cause.not_fallen in
      grind arith;
}
