use Rattle.std.proofs.Common.{rules}
use Rattle.driver_faults.proofs.StartLaws.{no_fault}
use Rattle.driver_faults.proofs.resolving.fetch.Goals as goal

pub returns-in-Ok-Some-clause-cause : goal.returns-in-Ok-Some-clause-cause
returns-in-Ok-Some-clause-cause g c = record {
  not_fallen = c.get.ensures.cause.not_fallen;
  risen = λ told. absurd (no_fault c.start.ensures.does told);
}

pub returns-in-Err-Failed-clause-cause : goal.returns-in-Err-Failed-clause-cause
returns-in-Err-Failed-clause-cause g c = record {
  not_fallen = c.get.ensures.cause.not_fallen;
  risen = λ told. c.get.ensures.cause.risen (search rules);
}
