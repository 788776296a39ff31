use Rattle.std.proofs.Common.{refl}
use Rattle.cached_translations.proofs.ProbeLaws.{free_places_probed, free_places_lead}
use Rattle.cached_translations.proofs.probe_table.ProbeTable.new.Goals as goal

pub invariant_of-result : goal.invariant_of-result
invariant_of-result c = record { probed = free_places_probed 128 refl }

pub returns-clause-empty : goal.returns-clause-empty
returns-clause-empty c = free_places_lead 128
