-- A refusal that has no fields fits.
use Rattle.std.proofs.Common.{◌≡◌, ℕ, Bool, true, false, List, [], ◌∷◌, Some, IfSome, find, bytes_eq, subst}
use Rattle.std.proofs.Common.{rules, if◌then◌else◌}
use Rattle.std.specs.List.{AllByRecursion}
use Rattle.sgx_rules.specs.declared.refusals.Refusal.{Refusal}
use Rattle.trace_text.specs.Fields.{AllFit, refusal_fields}
use Rattle.trace_lines.specs.inner.Names.{bare_of, bare_word, bares}

abbrev FitsBare : Refusal → Type 0
FitsBare refusal = AllFit (refusal_fields refusal)

found-fits : (p : Refusal → Bool) (refusals : List Refusal) → AllByRecursion FitsBare refusals → IfSome (find p refusals) FitsBare
found-fits p [] all = tt
found-fits p (refusal ∷ others) all =
    elim (p refusal) as (λ passes. IfSome (if passes then Some refusal else find p others) FitsBare) [
      | true ↦ all.0
      | false ↦ found-fits p others all.1
    ]

pub bare_fits : (word : List ℕ) (refusal : Refusal) → bare_of word ≡ Some refusal
    → AllFit (refusal_fields refusal)
unfolding bare_of
bare_fits word refusal read = subst (λ r. IfSome r FitsBare) read
    (found-fits (λ refusal. bytes_eq word (bare_word refusal)) bares (search rules))
