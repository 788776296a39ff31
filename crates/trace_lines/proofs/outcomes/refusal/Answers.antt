use Rattle.std.proofs.Common.{sym}
use Rattle.trace_lines.proofs.BareLaws.{bare_fits}
use Rattle.trace_lines.proofs.outcomes.refusal.Goals as goal

pub returns-in-Some-clause-fits : goal.returns-in-Some-clause-fits
returns-in-Some-clause-fits c = bare_fits c.next-name.result.now c.in-Some.refusal (sym c.in-Some.ensures)
