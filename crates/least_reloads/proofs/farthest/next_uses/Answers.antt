use Rattle.std.proofs.Common.{◌+◌, ◌-◌, ℕ, ap, ◌∙◌, length, unwrap_or, arith}
use Rattle.std.proofs.lemmas.List.{length-set}
use Rattle.std.specs.HashMap.{get}
use Rattle.sgx_types.specs.Pages.{same_page}
use Rattle.least_reloads.proofs.UseLaws.{UsesFrom, uses_step}
use Rattle.least_reloads.proofs.farthest.next_uses.Goals as goal

pub loop-i-preserved : goal.loop-i-preserved
loop-i-preserved c =
    let accesses = c.args.accesses.now in
    let uses = c.loop-i.uses.items in
    let i : ℕ = c.loop-i.i in
    let was : UsesFrom accesses uses (get same_page c.loop-i.later) i = record {
      later = c.loop-i.invariant.later;
      found = c.loop-i.invariant.uses;
    } in
    let step =
    uses_step accesses uses (get same_page c.loop-i.later) (get same_page c.insert.new.self) i
    (i - 1) c.unwrap_or.result (record { enclave = 0; number = 0 }) (omega (arith, c.loop-i-test.true))
    (omega (arith, c.loop-i-test.true, c.loop-i.auto.i)) c.loop-i.invariant.size was
    c.in_ok-next.ensures.updates.0
    (c.unwrap_or.ensures ∙ ap (λ o. unwrap_or o (length accesses + (i - 1))) c.in_ok-next.ensures.old) in
    record {
      size = length-set uses (i - 1) c.unwrap_or.result ∙ c.loop-i.invariant.size;
      later = step.later;
      uses = step.found;
    }
