use Rattle.flat_machine.proofs.Columns.{memory_fresh}
use Rattle.flat_machine.proofs.flat.Flat.new.Goals as goal

pub returns : goal.returns
returns c = record { fresh = rw (c.in_ok-no_enclaves.ensures, c.in_ok-no_tables.ensures, c.in_ok-idle_processors.ensures) memory_fresh }
