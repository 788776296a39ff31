use Rattle.run_laws.proofs.MakeLaws.{builder_makes, cpu_makes}
use Rattle.run_laws.proofs.steps.dues_can_be_made.Goals as goal

pub returns-clause-builder : goal.returns-clause-builder
returns-clause-builder c = builder_makes

pub returns-clause-cpu : goal.returns-clause-cpu
returns-clause-cpu c = cpu_makes
