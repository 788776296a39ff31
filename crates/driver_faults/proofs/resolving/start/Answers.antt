use Rattle.std.proofs.Common.{ap, sym, ◌∙◌, rules}
use Rattle.seal_record.specs.declared.unseal.UnsealWork.{UnsealWork}
use Rattle.sgx_machine.specs.inner.Parts.{state_of}
use Rattle.sgx_types.specs.declared.names.Actor.TheVariants as actors
use Rattle.driver_faults.proofs.StartLaws.{says_refused, says_started, start_loads}
use Rattle.driver_faults.proofs.resolving.start.Goals as goal

pub returns-then-is_refused-clause-does : goal.returns-then-is_refused-clause-does
returns-then-is_refused-clause-does c =
    says_refused c.args.cpu c.args.page c.args.slot c.args.at c.args.frame c.args.rec c.args.driver.now c.args.machine.now
    c.step-entry.new.machine
    c.step-entry.result c.step-entry.ensures.step c.step-entry.ensures.carries (sym c.is_refused.ensures ∙ c.if-is_refused.true)

pub unseal_input-requires : goal.unseal_input-requires
unseal_input-requires c =
    start_loads (state_of c.args.machine.now) (state_of c.step-entry.new.machine)
    (actors.Cpu c.args.cpu) c.args.frame c.args.page c.args.at
    c.step-entry.result c.step-entry.ensures.step (sym c.is_refused.ensures ∙ c.if-is_refused.false)

pub returns-clause-does : goal.returns-clause-does
returns-clause-does c =
    says_started c.args.cpu c.args.page c.args.slot c.args.at c.args.frame c.args.rec c.args.driver.now c.args.machine.now
    c.step-entry.new.machine
    c.step-entry.result c.step-entry.ensures.step c.step-entry.ensures.carries _ _
    (sym c.is_refused.ensures ∙ c.if-is_refused.false) (search rules)
    (c.unseal_input.ensures.rec ∙ ap (λ (x : UnsealWork). x.rec) c.deref_mut-2.ensures.value) c.unseal_input.ensures.key
    c.unseal_input.ensures.version
