use Rattle.machine_laws.proofs.WholeLaws.{refused_outside}
use Rattle.sgx_machine.proofs.machine.Machine.note_outsiders.Goals as goal

pub returns-clause-inside : goal.returns-clause-inside
returns-clause-inside c = rw (← c.self.view_is) (λ p past. c.self.invariant.guarded.few p past)

pub returns-clause-refused : goal.returns-clause-refused
returns-clause-refused c = λ making past records actor action why own nobody refused stands.
    refused_outside _ making past records actor action why own (rw (← c.self.view_is) c.self.invariant.sound)
    (rw (← c.self.view_is) c.self.invariant.guarded) nobody refused stands
