use Rattle.std.proofs.Common.{◌≡◌, replicate, []}
use Rattle.flat_machine.proofs.flat.no_tables.Given as goal

abbrev pub invariant-loop : goal.invariant-loop
invariant-loop l = l.tables.items ≡ replicate l.counter []
