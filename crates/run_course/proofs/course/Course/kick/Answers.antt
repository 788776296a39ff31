use Rattle.std.proofs.Common.{◌≡◌, ◌+◌, length, arith, refl, sym, ap, subst, ◌∙◌}
use Rattle.run_laws.specs.inner.Bits.{below}
use Rattle.run_laws.proofs.BitLaws.{below_zero}
use Rattle.run_course.specs.inner.Kicking.{HasKicked}
use Rattle.run_course.proofs.KickTurnLaws.{all_kicked, few_below, kicked_next, next_kick, none_kicked}
use Rattle.run_course.proofs.course.Course.kick.Goals as goal

pub loop-number-init : goal.loop-number-init
loop-number-init c can = (
  subst (λ ps. HasKicked c.args.self.now ps can.told c.args.self.now) (sym (below_zero can.cpus))
      (none_kicked c.args.self.now c.args.bits can),
  sym (ap length (below_zero can.cpus)),
)

pub kick_if-kicked-requires : goal.kick_if-kicked-requires
kick_if-kicked-requires c set =
    next_kick c.args.self.now c.args.bits c.requires c.loop-number.self c.loop-number.number c.loop-number-test.true set
    (c.loop-number.invariant c.requires).0

pub overflow_add-kicked : goal.overflow_add-kicked
overflow_add-kicked c =
    let next = kicked_next c.args.self.now c.loop-number.self c.kick_if-kicked.new.self c.args.bits c.requires
    c.loop-number.number c.loop-number.kicked
    c.kick_if-kicked.result c.loop-number-test.true (c.loop-number.invariant c.requires).0 (c.loop-number.invariant c.requires).1 _ refl
    c.kick_if-kicked.ensures.one c.kick_if-kicked.ensures.none in
    let few = few_below c.args.self.now c.args.bits c.requires (c.loop-number.number + 1) in
    let count = next.1 in
    omega (arith, few, count)

pub loop-number-preserved : goal.loop-number-preserved
loop-number-preserved c can =
    kicked_next c.args.self.now c.loop-number.self c.kick_if-kicked.new.self c.args.bits can c.loop-number.number c.loop-number.kicked
    c.kick_if-kicked.result c.loop-number-test.true (c.loop-number.invariant can).0 (c.loop-number.invariant can).1 _ refl
    c.kick_if-kicked.ensures.one c.kick_if-kicked.ensures.none

pub returns-clause-kicked : goal.returns-clause-kicked
returns-clause-kicked c can =
    let last : c.loop-number.number ≡ 16 = omega (arith, c.loop-number.auto.number-end, c.loop-number-test.false) in
    subst (λ ps. HasKicked c.args.self.now ps can.told c.loop-number.self)
    (ap (λ n. below n can.cpus) last ∙ all_kicked c.args.self.now c.args.bits can) (c.loop-number.invariant can).0

pub returns-clause-count : goal.returns-clause-count
returns-clause-count c can =
    let last : c.loop-number.number ≡ 16 = omega (arith, c.loop-number.auto.number-end, c.loop-number-test.false) in
    (c.loop-number.invariant can).1 ∙ ap (λ n. length (below n can.cpus)) last ∙ ap length (all_kicked c.args.self.now c.args.bits can)
