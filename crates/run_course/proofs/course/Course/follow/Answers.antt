use Rattle.driver_reclaim.specs.inner.After.{kicked_past}
use Rattle.driver_pass.specs.inner.Viewed.{is_kicked}
use Rattle.run_course.specs.declared.course.Course.{Course}
use Rattle.run_course.specs.inner.Courses.{past_of}
use Rattle.std.proofs.Common.{◌≡◌, ℕ, List, [], length, refl, ap, subst, sym, ◌∙◌}
use Rattle.driver_rules.specs.Dues.{Due, KicksAll}
use Rattle.run_course.specs.inner.Passing.{FollowsBy, IsFollowed}
use Rattle.run_course.specs.declared.turn.Turn.TheVariants as turns
use Rattle.run_course.proofs.AnswerLaws.{did_by, own_by, sealed_by}
use Rattle.run_course.proofs.KickTurnLaws.{kicks_grow}
use Rattle.run_course.proofs.course.Course.follow.Goals as goal

same_cpus : (a b : List ℕ) → KicksAll a ≡ KicksAll b → a ≡ b
same_cpus a b same = ap kicked same
  where
    kicked : Due → List ℕ
    kicked (KicksAll cpus) = cpus
    kicked due = []

pub seal-requires-clause-can : goal.seal-requires-clause-can
seal-requires-clause-can c =
    let by = subst (λ turn. FollowsBy c.args.self.now turn c.requires.longer c.requires.spare) c.in-Seal.is c.requires.by in
    let grows = c.take_own.ensures.grows (record { longer = c.requires.longer; spare = c.requires.spare; is = by.0 }) in
    record { told = c.requires.longer; spare = c.requires.spare; keeps = grows.keeps }

pub take_own-requires-in-One : goal.take_own-requires-in-One
take_own-requires-in-One c = record {
  longer = c.requires.longer;
  spare = c.requires.spare;
  is = own_by c.args.self.now c.args.turn c.in-One.entry c.requires.longer c.requires.spare c.in-One.is c.requires.by;
}

pub returns-in-One : goal.returns-in-One
returns-in-One c can =
    did_by c.args.self.now c.args.turn c.in-One.entry (turns.Did 1) c.take_own-in-One.new.self can.longer can.spare c.in-One.is (
      refl,
      c.take_own-in-One.ensures.past,
      c.take_own-in-One.ensures.kicks,
      c.take_own-in-One.ensures.grows (record {
        longer = can.longer;
        spare = can.spare;
        is = own_by c.args.self.now c.args.turn c.in-One.entry can.longer can.spare c.in-One.is can.by;
      }),
    )

pub returns-in-Kicks : goal.returns-in-Kicks
returns-in-Kicks c can =
    let own = subst (λ turn. FollowsBy c.args.self.now turn can.longer can.spare) c.in-Kicks.is can.by in
    subst (λ turn. IsFollowed c.args.self.now turn (turns.Did c.kick.result) c.kick.new.self can.longer can.spare) (sym c.in-Kicks.is) (
      λ cpus due.
          (let same = same_cpus own.kick.cpus cpus (sym own.kick.due ∙ due) in (
            c.kick.ensures.count own.kick ∙ ap length same,
            (c.kick.ensures.kicked own.kick).past ∙ ap (λ ps. kicked_past ps (past_of c.args.self.now)) same,
          )),
      ap (λ (x : Course). is_kicked x.pass) (c.kick.ensures.kicked own.kick).others,
      kicks_grow c.args.self.now c.kick.new.self c.in-Kicks.bits can.longer can.spare c.kick.result own (c.kick.ensures.kicked own.kick)
          (c.kick.ensures.count own.kick),
    )

pub returns-in-Seal : goal.returns-in-Seal
returns-in-Seal c can =
    let own = subst (λ turn. FollowsBy c.args.self.now turn can.longer can.spare) c.in-Seal.is can.by in
    let grows = c.take_own.ensures.grows (record { longer = can.longer; spare = can.spare; is = own.0 }) in
    subst (λ turn. IsFollowed c.args.self.now turn c.seal.result c.seal.new.self can.longer can.spare) (sym c.in-Seal.is)
    (sealed_by c.args.self.now c.take_own.new.self c.seal.new.self c.seal.result can.longer can.spare c.seal.ensures.seals
    c.seal.ensures.others grows)
