use Rattle.std.proofs.Common.{refl}
use Rattle.cached_translations.proofs.probe_table.ProbeTable.find.Goals as goal

pub returns-in_err-at-clause-none : goal.returns-in_err-at-clause-none
returns-in_err-at-clause-none c = λ is_none. c.in_err-at.ensures.none refl
