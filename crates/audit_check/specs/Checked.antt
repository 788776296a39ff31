-- What a verdict says of a trace whose driver is not known. Entries stand newest first.
use Rattle.std.specs.Prelude.{List}
use Rattle.sgx_rules.specs.declared.entries.Entry.{Entry}
use Rattle.job_grammar.specs.Jobs.{JobView}
use Rattle.history_rules.specs.inner.Histories.{is_machines}
use Rattle.history_machine.specs.Histories.{FailsFirstAmong, MachineHistory}
use Rattle.audit_check.specs.declared.verdict.Verdict.{Verdict}
use Rattle.audit_check.specs.declared.verdict.Verdict.TheVariants as verdicts

abbrev pub Checks : JobView → List Entry → Verdict → Type 0
Checks j whole verdicts.Yes = MachineHistory j whole
Checks j whole (verdicts.No place rule) = FailsFirstAmong is_machines j whole place rule
