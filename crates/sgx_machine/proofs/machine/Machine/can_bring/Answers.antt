use Rattle.std.proofs.lemmas.Bool.{eq-eqb}
use Rattle.sgx_types.proofs.Truths.{not_false}
use Rattle.sgx_machine.proofs.machine.Machine.can_bring.Goals as goal

pub returns-clause-may_not : goal.returns-clause-may_not
returns-clause-may_not c = λ here bring.
    let page = c.in-Some.page in
    let there = c.has_array.ensures.there (not_false c.has_array.result here) in
    bring.away page c.in-Some.ensures (eq-eqb page.enclave 0 c.if-page-ne0.false) there.0 there.1
