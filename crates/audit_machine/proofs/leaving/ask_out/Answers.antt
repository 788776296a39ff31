use Rattle.std.proofs.Common.{refl, sym, ap, ◌∙◌, length, List, ℕ}
use Rattle.audit_machine.proofs.LeaveLaws.{none_leaves, out_alike, out_apart, out_plain, out_tag, seals_same}
use Rattle.audit_machine.proofs.leaving.ask_out.Goals as goal

pub returns-then-not-is_leaving-clause-takes : goal.returns-then-not-is_leaving-clause-takes
returns-then-not-is_leaving-clause-takes c =
    none_leaves _ c.args.entry.now c.args.frame c.requires.own (sym c.is_leaving.ensures ∙ c.if-not-is_leaving.true)

pub returns-then-not-same_end-clause-takes : goal.returns-then-not-same_end-clause-takes
returns-then-not-same_end-clause-takes c =
    out_apart _ _ c.args.entry.now _ c.args.frame _ c.requires.own c.ewb_commit-rec.ensures.step c.ewb_commit-rec.ensures.history _
    (sym c.same_end.ensures ∙ c.if-not-same_end.true) c.first_broken.ensures

pub invariant_of-result-clause-plain_size : goal.invariant_of-result-clause-plain_size
invariant_of-result-clause-plain_size c =
    ap (λ (items : List ℕ). length items) (c.copy_from_slice.ensures.items ∙ c.deref.ensures.value) ∙ c.seal-work.result.plain_size

pub invariant_of-result-clause-is_plain : goal.invariant_of-result-clause-is_plain
invariant_of-result-clause-is_plain c =
    (c.copy_from_slice.ensures.items ∙ c.deref.ensures.value)
    ∙ out_plain _ _ c.args.entry.now _ c.args.frame _ c.requires.own c.ewb_commit-rec.ensures.step c.ewb_commit-rec.ensures.history _ _ _ _
    (seals_same _ _ _ _ _ _ _ _ _ c.seal_input.ensures c.seal-work.ensures.key c.seal-work.ensures.version c.seal-work.ensures.plain)
    (sym c.tells_secs.ensures ∙ c.if-tells_secs.false) c.seal-work.result.plain_size

pub invariant_of-result-clause-is_computed : goal.invariant_of-result-clause-is_computed
invariant_of-result-clause-is_computed c =
    c.tag_in-computed.ensures
    ∙ out_tag _ _ c.args.entry.now _ c.args.frame _ c.requires.own c.ewb_commit-rec.ensures.step c.ewb_commit-rec.ensures.history _ _ _ _
    (seals_same _ _ _ _ _ _ _ _ _ c.seal_input.ensures c.seal-work.ensures.key c.seal-work.ensures.version c.seal-work.ensures.plain)

pub returns-then-tells_secs-clause-takes : goal.returns-then-tells_secs-clause-takes
returns-then-tells_secs-clause-takes c =
    out_alike _ _ c.args.entry.now _ c.args.frame _ c.requires.own c.ewb_commit-rec.ensures.step c.ewb_commit-rec.ensures.history _ _ _ _
    (seals_same _ _ _ _ _ _ _ _ _ c.seal_input.ensures c.seal-work.ensures.key c.seal-work.ensures.version c.seal-work.ensures.plain)
    _ c.unseal.ensures.key c.unseal.ensures.version c.unseal.ensures.rec (sym c.same_end.ensures ∙ c.if-not-same_end.false)

pub returns-clause-takes : goal.returns-clause-takes
returns-clause-takes c =
    out_alike _ _ c.args.entry.now _ c.args.frame _ c.requires.own c.ewb_commit-rec.ensures.step c.ewb_commit-rec.ensures.history _ _ _ _
    (seals_same _ _ _ _ _ _ _ _ _ c.seal_input.ensures c.seal-work.ensures.key c.seal-work.ensures.version c.seal-work.ensures.plain)
    _ refl refl refl (sym c.same_end.ensures ∙ c.if-not-same_end.false)
