-- Which rules a verdict may name.
use Rattle.std.specs.Prelude.{◌≡◌, Bool, true, false}
use Rattle.history_rules.specs.declared.rules.Rule.{Rule}
use Rattle.history_rules.specs.declared.rules.Rule.TheVariants as rules
use Rattle.audit_check.specs.declared.verdict.Verdict.{Verdict}
use Rattle.audit_check.specs.declared.verdict.Verdict.TheVariants as verdicts

-- a rule that such a verdict may name. Where Fits or Stale fails at the first place, Refusal fails there too
abbrev pub is_named : Rule → Bool
is_named rules.Fits = false
is_named rules.Stale = false
is_named rule = true

abbrev pub NamesOne : Verdict → Type 0
NamesOne verdicts.Yes = Unit {0}
NamesOne (verdicts.No place rule) = is_named rule ≡ true
