use Rattle.std.proofs.Common.{sym, ap, ◌∙◌}
use Rattle.sgx_types.specs.Sealed.{Sealed}
use Rattle.audit_machine.proofs.ComeLaws.{can_end, reason_fits, turned_away}
use Rattle.audit_machine.proofs.coming.turn_away.Goals as goal

pub returns-then-not-is_unfit-clause-takes : goal.returns-then-not-is_unfit-clause-takes
returns-then-not-is_unfit-clause-takes c =
    reason_fits _ c.args.actor c.args.frame c.coming_header-own.result c.args.why.now c.coming_header-own.ensures
    (sym c.is_unfit.ensures ∙ c.if-not-is_unfit.true)

pub eld_commit-requires-clause-can_end : goal.eld_commit-requires-clause-can_end
eld_commit-requires-clause-can_end c =
    can_end _ c.args.frame c.coming_header-own.result _ c.coming_header-own.ensures
    (ap (λ (x : Sealed). x.header.enclave) (c.unseal-opened.ensures.rec ∙ c.unseal_input.ensures.rec ∙ c.in_ok-other.ensures.rec)
    ∙ c.in_ok-of_other_page.ensures)

pub returns-clause-takes : goal.returns-clause-takes
returns-clause-takes c =
    turned_away _ c.args.frame c.coming_header-own.result _ c.coming_header-own.ensures
    (ap (λ (x : Sealed). x.header.enclave) (c.unseal-opened.ensures.rec ∙ c.unseal_input.ensures.rec ∙ c.in_ok-other.ensures.rec)
    ∙ c.in_ok-of_other_page.ensures)
    _ c.args.actor _ c.eld_commit.ensures.step c.eld_commit.ensures.back c.args.why.now (sym c.is_unfit.ensures ∙ c.if-not-is_unfit.false)
