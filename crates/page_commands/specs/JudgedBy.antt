-- What a verdict on a trace says, by the rules that were asked for.
use Rattle.std.specs.Prelude.{List}
use Rattle.sgx_rules.specs.declared.entries.Entry.{Entry}
use Rattle.job_grammar.specs.Jobs.{JobView}
use Rattle.command_words.specs.declared.rules.Rules.{Rules}
use Rattle.command_words.specs.declared.rules.Rules.TheVariants as rules
use Rattle.audit_check.specs.Checked.{Checks}
use Rattle.audit_check.specs.declared.verdict.Verdict.{Verdict}
use Rattle.audit_trace.specs.Judged.{Judges}

abbrev pub JudgesBy : Rules → JobView → List Entry → Verdict → Type 0
JudgesBy rules.All j whole verdict = Judges j whole verdict
JudgesBy rules.Processors j whole verdict = Checks j whole verdict
