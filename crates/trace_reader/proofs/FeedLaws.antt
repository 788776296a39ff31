-- What each answer of a reader says of what it was fed.
use Rattle.std.proofs.Common.{◌≡◌, ℕ, ◌++◌, List, Option, Some, None, Ok, Err, length, refl, sym, ap, ◌∙◌, subst}
use Rattle.std.proofs.lemmas.Option.{same_Some}
use Rattle.trace_text.specs.declared.edition.Edition.{Edition}
use Rattle.trace_reader.specs.declared.refusals.TraceRefusal.TheVariants.{Fault, Memory}
use Rattle.trace_reader.specs.Faults.{IsBegun, IsFirstFault, whole_lines}
use Rattle.trace_reader.specs.inner.Faults.{Progress, Reading, Faulted}
use Rattle.trace_reader.specs.inner.Kept.{progress_at}
use Rattle.trace_reader.specs.inner.Outcomes.{Feeds}

module _ (edition : Edition) where
  pub feeds_ok : (before : Progress) (fault : Option ℕ) (fed piece grown : List ℕ) → progress_at edition fault fed ≡ before → fault ≡ None
      → fed ++ piece ≡ grown → IsBegun edition (fed ++ piece) (length (whole_lines (fed ++ piece)))
      → Feeds before piece (Ok tt) (progress_at edition fault grown)
  feeds_ok before None fed piece grown is none same begun =
      subst (λ p. Feeds p piece (Ok tt) (Reading edition grown)) is (ap (Reading edition) (sym same), begun)
  feeds_ok before (Some line) fed piece grown is none same begun = absurd cc

  pub feeds_fault : (before : Progress) (fault : Option ℕ) (fed piece : List ℕ) (line : ℕ) → progress_at edition fault fed ≡ before
      → fault ≡ None
      → ((more : List ℕ) → IsFirstFault edition ((fed ++ piece) ++ more) line) → Feeds before piece (Err (Fault line)) (Faulted line)
  feeds_fault before None fed piece line is none first = subst (λ p. Feeds p piece (Err (Fault line)) (Faulted line)) is (refl, first)
  feeds_fault before (Some other) fed piece line is none first = absurd cc

  pub feeds_again : (before : Progress) (fault : Option ℕ) (fed piece : List ℕ) (line : ℕ) → progress_at edition fault fed ≡ before
      → fault ≡ Some line → Feeds before piece (Err (Fault line)) before
  feeds_again before None fed piece line is some = absurd cc
  feeds_again before (Some other) fed piece line is some =
      let own : Faulted line ≡ before = ap (λ (n : ℕ). Faulted n) (sym (same_Some _ _ some)) ∙ is in
      subst (λ p. Feeds p piece (Err (Fault line)) p) own (refl, refl)

  pub feeds_memory : (before : Progress) (fault : Option ℕ) (fed piece grown : List ℕ) → progress_at edition fault fed ≡ before
      → fault ≡ None
      → grown ≡ fed → Feeds before piece (Err Memory) (progress_at edition fault grown)
  feeds_memory before None fed piece grown is none same = subst (λ p. Feeds p piece (Err Memory) (Reading edition grown)) is
      (ap (Reading edition) same)
  feeds_memory before (Some line) fed piece grown is none same = absurd cc
