use Rattle.least_reloads.proofs.RunLaws.{RunSoFar}
use Rattle.least_reloads.proofs.lawful.is_run.Given as goal

abbrev pub invariant-loop-i : goal.invariant-loop-i
invariant-loop-i l = RunSoFar l.frames l.accesses l.steps l.held l.i
