use Rattle.std.proofs.Common.{length, sym, ap, subst, ◌∙◌, []}
use Rattle.std.proofs.lemmas.List.{length-map}
use Rattle.driver_pass.specs.inner.Standing.{StandsAt}
use Rattle.driver_pass.proofs.GoLaws.{first_stands}
use Rattle.run_laws.proofs.FreshLaws.{made_same}
use Rattle.audit_trace.proofs.NewLaws.{keeps_first}
use Rattle.audit_trace.proofs.auditing.Auditing.new.Goals as goal

pub returns : goal.returns
returns c =
    keeps_first c.args.job.now _
    (record {
      value = made_same c.args.job.now c.in_ok-machine.machine c.epc.result (length c.scripts.result.now) c.key.result.now
          c.start_epoch.result c.start_version.result c.in_ok-machine.ensures.value c.epc.ensures.value
          (sym (length-map c.scripts.result.now (λ script. script.items)) ∙ ap length c.scripts.ensures) c.key.ensures
          c.start_epoch.ensures.value c.start_version.ensures.value;
      shape = c.in_ok-machine.ensures.shape;
      history = c.in_ok-machine.ensures.history;
    })
    c.in_ok-driver.ensures c.in_ok-turns.ensures (subst (StandsAt c.args.job.now.start_epoch c.args.job.now []) (sym c.in_ok-pass.ensures)
    (first_stands c.args.job.now.start_epoch c.args.job.now)) c.new-records.ensures
