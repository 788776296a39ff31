-- A book that has ended is a whole run.
use Rattle.std.proofs.Common.{◌≡◌, ◌≢◌, ℕ, ◌<◌, List, Option, Some, None, length, subst, false}
use Rattle.std.proofs.Common.{sym, ◌∙◌}
use Rattle.std.specs.Prelude.{IfSome}
use Rattle.std.proofs.lemmas.Bool.{false≢true}
use Rattle.sgx_rules.specs.declared.entries.Entry.{Entry}
use Rattle.io_edges.specs.declared.plans.PlanLine.{PlanLine}
use Rattle.job_grammar.specs.Jobs.{JobView}
use Rattle.backing_store.specs.Calls.{Call}
use Rattle.driver_rules.specs.Scripts.{IsDone, IsEnded}
use Rattle.run_laws.proofs.DoneLaws.{all_done}
use Rattle.driver_rules.specs.Stops.{has_loss}
use Rattle.history_rules.specs.Given.{UnforgedRun}
use Rattle.history_rules.specs.Histories.{History}
use Rattle.history_rules.specs.inner.Histories.{GoesOn}
use Rattle.history_rules.specs.Stored.{PutsAreFlat}
use Rattle.history_rules.proofs.HistoryLaws.{ended_history}
use Rattle.run_crew.specs.inner.Views.{BookView, Holds}
use Rattle.run_jobs.specs.Ends.{IsEndOf}
use Rattle.run_jobs.specs.Runs.{WholeRun}
use Rattle.run_jobs.specs.declared.ends.End.{End}
use Rattle.run_jobs.specs.declared.ends.End.TheVariants as ends

histories : (j : JobView) (past : List Entry) (told : Option (List Call)) → IsEnded j past
    → IfSome told (λ calls. UnforgedRun j.key past calls → GoesOn j past × PutsAreFlat j.key past calls)
    → IfSome told (λ calls. UnforgedRun j.key past calls → History j past × PutsAreFlat j.key past calls)
histories j past None ended holds = tt
histories j past (Some calls) ended holds = λ unforged. let both = holds unforged in (ended_history j past both.0 ended, both.1)

-- where each page came back, no processor was ended by one
pub no_bus : (past : List Entry) (end : End) → IsEndOf past end → has_loss past ≡ false → end ≢ ends.Bus
no_bus past ends.Done is back = λ same. cc
no_bus past ends.Bus is back = λ same. false≢true (sym back ∙ is.1)
no_bus past ends.Spent is back = λ same. cc

done_of : (j : JobView) (past : List Entry) (end : End) → IsEnded j past → IsEndOf past end → end ≡ ends.Done
    → (p : ℕ) → p < length j.scripts → IsDone j past p
done_of j past end ended is done p low =
    let how = subst (IsEndOf past) done is in
    all_done j past ended how.1 how.0 p low

whole : (b : BookView) (end : End) → Holds b → IsEnded b.job b.past → IsEndOf b.past end → WholeRun b.job b.past end b.told b.plans
whole b end holds ended is = record {
  script = record { entries = holds.anyhow.script; ended = ended };
  age = holds.anyhow.age;
  kick = holds.anyhow.kick;
  fits = holds.anyhow.fits;
  stale = holds.anyhow.stale;
  evict = holds.anyhow.evict;
  rising = holds.anyhow.rising;
  spent = holds.anyhow.spent;
  store = holds.anyhow.store;
  history = histories b.job b.past b.told ended holds.unforged;
  end_is = is;
  done = done_of b.job b.past end ended is;
  honest = holds.anyhow.honest;
}

-- .. and what was taken apart of it is that run
pub whole_of : (b : BookView) (end : End) (j : JobView) (past : List Entry) (told : Option (List Call)) (plans : List PlanLine)
    → Holds b → IsEnded b.job b.past → IsEndOf past end → j ≡ b.job → past ≡ b.past → told ≡ b.told → plans ≡ b.plans
    → WholeRun j past end told plans
whole_of b end j past told plans holds ended is job same calls lines =
    rw (job, same, calls, lines) (whole b end holds ended (subst (λ h. IsEndOf h end) same is))
