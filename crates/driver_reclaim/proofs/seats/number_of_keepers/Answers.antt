use Rattle.std.proofs.Common.{◌≡◌, ℕ, ◌-◌, Bool, ap, ◌∙◌, length, arith}
use Rattle.sgx_machine.specs.inner.Parts.{cpu_at}
use Rattle.driver_pass.specs.inner.Keeping.{is_older, passing_from}
use Rattle.driver_reclaim.proofs.SeatLaws.{count_from, count_is}
use Rattle.driver_reclaim.proofs.seats.number_of_keepers.Goals as goal

pub returns : goal.returns
returns c =
    let test : ℕ → Bool = λ p. is_older (cpu_at c.args.machine.now p).mode c.args.enclave c.args.epoch in
    let n : ℕ = c.cpus-cpus.result in
    let all : c.loop-back.back ≡ n = omega (arith, c.loop-back-test.false, c.loop-back.auto.back-end) in
    let first : n - n ≡ 0 = omega arith in
    c.loop-back.invariant.count ∙ ap (λ k. count_from test (n - k) k) all ∙ ap (λ k. count_from test k n) first
    ∙ count_is test 0 n ∙ ap (λ k. length (passing_from test 0 k)) c.cpus-cpus.ensures.value
