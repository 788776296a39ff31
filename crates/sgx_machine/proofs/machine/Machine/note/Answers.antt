use Rattle.machine_laws.proofs.NoteLaws.{noted_fits, noted_shaped}
use Rattle.machine_laws.proofs.WholeLaws.{noted_all}
use Rattle.sgx_machine.proofs.machine.Machine.note.Goals as goal

pub returns-clause-shape : goal.returns-clause-shape
returns-clause-shape c = λ making past shaped.
    noted_shaped _ making past c.args.entry.now c.requires (rw (← c.self.view_is) c.self.invariant.sound)
    (rw (← c.self.view_is) c.self.invariant.guarded) shaped

pub returns-clause-fits : goal.returns-clause-fits
returns-clause-fits c = λ frames past fits. noted_fits frames past c.args.entry.now c.requires fits

pub returns-clause-history : goal.returns-clause-history
returns-clause-history c = λ making past records stands.
    noted_all _ making past records c.args.entry.now c.requires (rw (← c.self.view_is) c.self.invariant.sound)
    (rw (← c.self.view_is) c.self.invariant.guarded) stands
