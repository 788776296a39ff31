use Rattle.std.proofs.Common.{◌≡◌, ◌∙◌, sym, ap, subst, List, arith}
use Rattle.std.proofs.lemmas.Bool.{MatchBool-at_true, MatchBool-at_false}
use Rattle.sgx_types.specs.declared.names.Page.{Page}
use Rattle.least_reloads.specs.Plans.{StepView}
use Rattle.least_reloads.specs.inner.Sets.{CanLeave, CanJoin, Leave, Join}
use Rattle.least_reloads.proofs.RunLaws.{step_leaves, step_joins, step_served, step_too_large}
use Rattle.least_reloads.proofs.lawful.serves.Goals as goal

pub returns-then-not-leave : goal.returns-then-not-leave
returns-then-not-leave c = λ pages of step.
    let old = c.args.held.now in
    let out : c.deref.result.now ≡ c.args.step.now.out = c.deref.ensures.value ∙ ap (λ (t : StepView). t.out) c.step.view_is in
    let Can : List Page → Type 0 = CanLeave old in
    MatchBool-at_false _ _ c.if-not-leave.true c.leave.ensures
    (subst Can (sym out) (step_leaves c.args.frames pages old c.args.page c.args.step.now of step))

pub returns-then-not-branch : goal.returns-then-not-branch
returns-then-not-branch c = λ pages of step.
    let old = c.args.held.now in
    let left = c.leave.new.held in
    let out : c.deref.result.now ≡ c.args.step.now.out = c.deref.ensures.value ∙ ap (λ (t : StepView). t.out) c.step.view_is in
    let load : c.deref-2.result.now ≡ c.args.step.now.load = c.deref-2.ensures.value ∙ ap (λ (t : StepView). t.load) c.step.view_is in
    let Goes : List Page → Type 0 = λ pages. CanLeave old pages × Leave old pages left in
    let Can : List Page → Type 0 = CanJoin left in
    let gone = subst Goes out (MatchBool-at_true _ _ c.if-not-leave.false c.leave.ensures) in
    MatchBool-at_false _ _ c.if-not-branch.true c.in_ok-join.ensures
    (subst Can (sym load) (step_joins c.args.frames pages old left c.args.page c.args.step.now of gone.1 step))

pub returns-then-len-frames : goal.returns-then-len-frames
returns-then-len-frames c = λ pages of step.
    let old = c.args.held.now in
    let left = c.leave.new.held in
    let new = c.join.new.held in
    let out : c.deref.result.now ≡ c.args.step.now.out = c.deref.ensures.value ∙ ap (λ (t : StepView). t.out) c.step.view_is in
    let load : c.deref-2.result.now ≡ c.args.step.now.load = c.deref-2.ensures.value ∙ ap (λ (t : StepView). t.load) c.step.view_is in
    let Goes : List Page → Type 0 = λ pages. CanLeave old pages × Leave old pages left in
    let Comes : List Page → Type 0 = λ pages. CanJoin left pages × Join left pages new in
    let gone = subst Goes out (MatchBool-at_true _ _ c.if-not-leave.false c.leave.ensures) in
    let come = subst Comes load (MatchBool-at_true _ _ c.if-not-branch.false c.in_ok-join.ensures) in
    step_too_large c.args.frames pages old left new c.args.page c.args.step.now of gone.1 come.0 come.1 c.len.ensures.once
    (omega (arith, c.len.ensures.len, c.if-len-frames.true)) step

pub returns : goal.returns
returns c = λ pages of.
    let old = c.args.held.now in
    let left = c.leave.new.held in
    let new = c.join.new.held in
    let out : c.deref.result.now ≡ c.args.step.now.out = c.deref.ensures.value ∙ ap (λ (t : StepView). t.out) c.step.view_is in
    let load : c.deref-2.result.now ≡ c.args.step.now.load = c.deref-2.ensures.value ∙ ap (λ (t : StepView). t.load) c.step.view_is in
    let Goes : List Page → Type 0 = λ pages. CanLeave old pages × Leave old pages left in
    let Comes : List Page → Type 0 = λ pages. CanJoin left pages × Join left pages new in
    let gone = subst Goes out (MatchBool-at_true _ _ c.if-not-leave.false c.leave.ensures) in
    let come = subst Comes load (MatchBool-at_true _ _ c.if-not-branch.false c.in_ok-join.ensures) in
    step_served c.args.frames pages old left new c.args.page c.args.step.now of gone.0 gone.1 come.0 come.1 c.len.ensures.once
    (omega (arith, c.len.ensures.len, c.if-len-frames.false)) c.contains.result c.contains.ensures
