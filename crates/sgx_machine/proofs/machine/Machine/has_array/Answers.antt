use Rattle.std.proofs.Common.{◌≡◌, ◌∙◌, ◌<◌, ◌≤◌, ◌⊎◌, ⊎_elim, sym, subst, length, arith}
use Rattle.std.proofs.lemmas.Bool.{cases_lt}
use Rattle.sgx_rules.specs.Frames.{IsVa}
use Rattle.sgx_machine.specs.inner.Parts.{Parts, state_of}
use Rattle.sgx_machine.specs.inner.Whole.{parts_of}
use Rattle.sgx_machine.proofs.ProcessorBridge.{free_past}
use Rattle.sgx_machine.proofs.machine.Machine.has_array.Goals as goal

pub returns-clause-away : goal.returns-clause-away
returns-clause-away c = λ is n at. (
    let d = parts_of c.self.inside in
    let there : (state_of d).content n ≡ IsVa c.args.number =
    subst (λ (x : Parts). (state_of x).content n ≡ IsVa c.args.number) (sym c.self.view_is) at in
    let nowhere : (n < length d.epc) ⊎ (length d.epc ≤ n) → ⊥ = ⊎_elim
    (λ (low : n < length d.epc). c.loop-frame.invariant n (omega (arith, low, c.frames-frame-end.ensures.count, c.loop-frame-test.false))
    there)
    (λ (past : length d.epc ≤ n). (let none = sym (free_past d n past) ∙ there in cc none)) in
    nowhere (cases_lt n (length d.epc)))
