use Rattle.std.proofs.Common.{◌≡◌, sym, subst, ◌∙◌, rules}
use Rattle.driver_list.specs.declared.page_states.PageState.TheVariants as states
use Rattle.sgx_types.specs.declared.names.Actor.TheVariants as actors
use Rattle.sgx_types.specs.declared.names.Frame.{Frame}
use Rattle.sgx_machine.specs.inner.Parts.{state_of}
use Rattle.machine_laws.specs.inner.Steps.{CanBring, IsReloaded}
use Rattle.driver_faults.specs.inner.Finishing.{CarriesLoad}
use Rattle.driver_faults.proofs.FinishLaws.{finished_as}
use Rattle.driver_faults.proofs.finishing.finish.Goals as goal

pub eld_commit-entry-requires-clause-can_end : goal.eld_commit-entry-requires-clause-can_end
eld_commit-entry-requires-clause-can_end c = λ coming allowed.
    let can = c.requires in
    let same : states.Loading can.frame can.slot ≡ states.Loading c.in-Loading.frame c.in-Loading.slot =
    sym can.tables.loading ∙ sym c.state.ensures.value ∙ c.in-Loading.is in
    let frame : can.frame ≡ c.in-Loading.frame = cc same in
    subst (λ (f : Frame). CanBring (state_of c.args.machine.now) f.0) frame can.apart

pub returns-clause-does : goal.returns-clause-does
returns-clause-does c can =
    finished_as c.args.cpu c.args.page c.args.driver.now c.end.new.driver c.args.machine.now (state_of c.args.machine.now)
    (state_of c.eld_commit-entry.new.self) c.end.result can c.in-Loading.frame c.in-Loading.slot c.kept.result.now
    (sym c.state.ensures.value ∙ c.in-Loading.is) c.kept.ensures
    (record {
      entry = c.eld_commit-entry.result;
      reloaded =
          subst
          (λ r. IsReloaded (state_of c.args.machine.now) (actors.Cpu c.args.cpu) c.in-Loading.frame r c.eld_commit-entry.result (state_of
          c.eld_commit-entry.new.self)) c.opened-work.ensures c.eld_commit-entry.ensures.step;
      carries =
          subst
          (λ r. CarriesLoad (state_of c.args.machine.now) c.in-Loading.frame.0 r c.eld_commit-entry.result (state_of
          c.eld_commit-entry.new.self)) c.opened-work.ensures (record {
            shape = c.eld_commit-entry.ensures.shape;
            fits = c.eld_commit-entry.ensures.fits;
            history = c.eld_commit-entry.ensures.history;
            back = c.eld_commit-entry.ensures.back;
            arrays = c.eld_commit-entry.ensures.arrays;
            making = c.eld_commit-entry.ensures.making;
          });
      ends = search rules;
    })
