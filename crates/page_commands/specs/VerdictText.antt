-- The text of a verdict on a trace.
use Rattle.std.specs.Prelude.{ℕ, List, [], ◌∷◌, ◌++◌, codes}
use Rattle.std.specs.Fmt.{decimal}
use Rattle.command_words.specs.declared.rules.Rules.{Rules}
use Rattle.command_words.specs.declared.rules.Rules.TheVariants as by
use Rattle.history_rules.specs.declared.rules.Rule.{Rule}
use Rattle.history_rules.specs.declared.rules.Rule.TheVariants as rules
use Rattle.sgx_rules.specs.declared.entries.Entry.{Entry}
use Rattle.text_words.specs.Words.{Words, line_text}
use Rattle.audit_check.specs.declared.verdict.Verdict.{Verdict}
use Rattle.audit_check.specs.declared.verdict.Verdict.TheVariants as verdicts
use Rattle.trace_tally.specs.TallyText.{tally_text}

abbrev pub rule_name : Rule → List ℕ
rule_name rules.Script = codes "Script"
rule_name rules.Refusal = codes "Refusal"
rule_name rules.Flat = codes "Flat"
rule_name rules.Fits = codes "Fits"
rule_name rules.Stale = codes "Stale"
rule_name rules.Evict = codes "Evict"
rule_name rules.Fresh = codes "Fresh"
rule_name rules.Sealed = codes "Sealed"
rule_name rules.Measure = codes "Measure"
rule_name rules.Age = codes "Age"
rule_name rules.Kick = codes "Kick"

abbrev pub verdict_words : Verdict → Words
verdict_words verdicts.Yes = codes "yes" ∷ []
verdict_words (verdicts.No place rule) = codes "no" ∷ decimal place ∷ rule_name rule ∷ []

-- `yes`, or `no` with the place, counted from 0, and the rule that fails there first
unfoldable pub verdict_text : Verdict → List ℕ
verdict_text verdict = line_text (verdict_words verdict)

-- what is told of a trace: the verdict on it, and by the processor's rules its tally too. The entries stand newest first
unfoldable pub judged_text : Rules → List Entry → Verdict → List ℕ
judged_text by.All whole verdict = verdict_text verdict
judged_text by.Processors whole verdict = verdict_text verdict ++ tally_text whole
