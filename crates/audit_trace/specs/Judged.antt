-- What a verdict on a trace says. Entries stand newest first.
use Rattle.std.specs.Prelude.{List}
use Rattle.sgx_rules.specs.declared.entries.Entry.{Entry}
use Rattle.job_grammar.specs.Jobs.{JobView}
use Rattle.history_rules.specs.Histories.{FailsFirst, History}
use Rattle.audit_check.specs.declared.verdict.Verdict.{Verdict}
use Rattle.audit_check.specs.declared.verdict.Verdict.TheVariants as verdicts

abbrev pub Judges : JobView → List Entry → Verdict → Type 0
Judges j whole verdicts.Yes = History j whole
Judges j whole (verdicts.No place rule) = FailsFirst j whole place rule
