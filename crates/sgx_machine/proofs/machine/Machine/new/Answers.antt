use Rattle.std.proofs.Common.{refl}
use Rattle.sgx_machine.proofs.Fresh.{whole_made, made_all, made_shaped}
use Rattle.sgx_machine.proofs.machine.Machine.new.Goals as goal

pub invariant_of-result : goal.invariant_of-result
invariant_of-result c =
    whole_made _ c.args.frames c.args.cpus c.args.key c.args.start_epoch c.args.start_version
    (rw (
      c.in_ok-epc.ensures,
      c.new-2.ensures,
      c.new-3.ensures,
      c.new-4.ensures,
      c.new-5.ensures,
      c.in_ok-measures.ensures,
      c.in_ok-starts.ensures,
      c.in_ok-cpus.ensures,
    ) refl) c.requires.cpus c.requires.frames

pub returns-clause-shape : goal.returns-clause-shape
returns-clause-shape c =
    made_shaped _ c.args.frames c.args.cpus c.args.key c.args.start_epoch c.args.start_version
    (rw (
      c.in_ok-epc.ensures,
      c.new-2.ensures,
      c.new-3.ensures,
      c.new-4.ensures,
      c.new-5.ensures,
      c.in_ok-measures.ensures,
      c.in_ok-starts.ensures,
      c.in_ok-cpus.ensures,
    ) refl)

pub returns-clause-history : goal.returns-clause-history
returns-clause-history c =
    made_all _ c.args.frames c.args.cpus c.args.key c.args.start_epoch c.args.start_version c.requires.first_version
    (rw (
      c.in_ok-epc.ensures,
      c.new-2.ensures,
      c.new-3.ensures,
      c.new-4.ensures,
      c.new-5.ensures,
      c.in_ok-measures.ensures,
      c.in_ok-starts.ensures,
      c.in_ok-cpus.ensures,
    ) refl)
