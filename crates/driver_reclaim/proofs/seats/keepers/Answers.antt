use Rattle.std.proofs.Common.{◌≡◌, ℕ, ◌-◌, Bool, ap, ◌∙◌, arith}
use Rattle.sgx_machine.specs.inner.Parts.{cpu_at}
use Rattle.driver_pass.specs.inner.Keeping.{is_older, passing_from}
use Rattle.driver_reclaim.specs.inner.Answers.{bits_from, bits_of}
use Rattle.driver_reclaim.proofs.SeatLaws.{bits_are}
use Rattle.driver_reclaim.proofs.seats.keepers.Goals as goal

pub returns : goal.returns
returns c =
    let test : ℕ → Bool = λ p. is_older (cpu_at c.args.machine.now p).mode c.args.enclave c.args.epoch in
    let n : ℕ = c.cpus-cpus.result in
    let all : c.loop-back.back ≡ n = omega (arith, c.loop-back-test.false, c.loop-back.auto.back-end) in
    let first : n - n ≡ 0 = omega arith in
    c.loop-back.invariant.bits ∙ ap (λ k. bits_from test (n - k) k) all ∙ ap (λ k. bits_from test k n) first
    ∙ bits_are test n c.cpus-cpus.ensures.few ∙ ap (λ k. bits_of (passing_from test 0 k)) c.cpus-cpus.ensures.value
