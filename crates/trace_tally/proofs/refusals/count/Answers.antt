use Rattle.std.proofs.Common.{◌≡◌, ◌+◌, ◌<◌, length, get_or, set, refl, sym, ap, ◌∙◌, subst, arith, true, false}
use Rattle.std.proofs.lemmas.List.{get_or_read}
use Rattle.trace_tally.specs.declared.refusals.RefusalCount.{RefusalCount}
use Rattle.trace_tally.specs.Tally.{is_of, with_refusal}
use Rattle.trace_tally.proofs.RefusalLaws.{none_yet, none_more, counted_here, counted_new}
use Rattle.trace_tally.proofs.refusals.count.Goals as goal

pub loop-at-init : goal.loop-at-init
loop-at-init c = (refl, none_yet c.args.action.now c.args.why.now c.args.rows.now.items)

pub loop-at-preserved : goal.loop-at-preserved
loop-at-preserved c =
    let rows = c.loop-at.rows.items in
    let at = c.loop-at.at in
    let action = c.args.action.now in
    let why = c.args.why.now in
    let within : at < length rows =
    omega (arith, c.loop-at-test.true, c.loop-at.auto.at-end, ap length c.loop-at.invariant.0, c.len-at-end.ensures) in
    let d = c.index.result.now in
    let other : is_of (get_or rows at d) action why ≡ false =
    ap (λ (row : RefusalCount). is_of row action why) (sym (get_or_read rows at _ within c.index.ensures d))
    ∙ sym c.is_of.ensures
    ∙ c.if-is_of.false in
    (c.loop-at.invariant.0, none_more action why at rows d within c.loop-at.invariant.1 other)

pub returns-then-is_of : goal.returns-then-is_of
returns-then-is_of c =
    let rows = c.loop-at.rows.items in
    let at = c.loop-at.at in
    let action = c.args.action.now in
    let why = c.args.why.now in
    let within : at < length rows =
    omega (arith, c.loop-at-test.true, c.loop-at.auto.at-end, ap length c.loop-at.invariant.0, c.len-at-end.ensures) in
    let d = c.index_mut.result.now in
    let reads : get_or rows at d ≡ d = sym (get_or_read rows at _ within c.index_mut.ensures.value d) in
    let first : get_or rows at d ≡ c.index.result.now = sym (get_or_read rows at _ within c.index.ensures d) in
    let then : get_or rows at d ≡ c.index-then-is_of.result.now = sym (get_or_read rows at _ within c.index-then-is_of.ensures d) in
    let here : is_of (get_or rows at d) action why ≡ true =
    ap (λ (row : RefusalCount). is_of row action why) first ∙ sym c.is_of.ensures ∙ c.if-is_of.true in
    let more : d.count + 1 ≡ c.in_ok-rows.field-0 =
    ap (λ (row : RefusalCount). row.count + 1) (sym reads ∙ then) ∙ sym c.in_ok-rows.ensures in
    let IsSet : RefusalCount → Type 0 = λ row.
    set rows at (record { action = row.action; why = row.why; count = row.count + 1; place = row.place })
    ≡ with_refusal action why c.args.place rows in
    ap (λ n. set rows at (record { action = d.action; why = d.why; count = n; place = d.place })) (sym more)
    ∙ subst IsSet reads (counted_here action why c.args.place at rows d within c.loop-at.invariant.1 here)
    ∙ ap (with_refusal action why c.args.place) c.loop-at.invariant.0

pub returns : goal.returns
returns c =
    let rows = c.loop-at.rows.items in
    let action = c.args.action.now in
    let why = c.args.why.now in
    let all : length rows ≡ c.loop-at.at =
    omega (arith, c.loop-at-test.false, c.loop-at.auto.at-end, ap length c.loop-at.invariant.0, c.len-at-end.ensures) in
    c.in_ok-push.ensures.items
    ∙ counted_new action why c.args.place c.loop-at.at rows all c.loop-at.invariant.1
    ∙ ap (with_refusal action why c.args.place) c.loop-at.invariant.0
