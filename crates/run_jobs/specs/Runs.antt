-- A whole run of a job: what is so of each, whatever it was that the store gave, and for every order of turns.
use Rattle.std.specs.Prelude.{ℕ, ◌≡◌, ◌<◌, List, Option, IfSome, length, false}
use Rattle.sgx_rules.specs.declared.entries.Entry.{Entry}
use Rattle.sgx_rules.specs.Rules.{Along, EvictRule, Fits, RisingRule, Stale}
use Rattle.io_edges.specs.declared.plans.PlanLine.{PlanLine}
use Rattle.job_grammar.specs.Jobs.{JobView}
use Rattle.backing_store.specs.Calls.{Call}
use Rattle.driver_rules.specs.Ages.{KeptAgeRule, KickRule}
use Rattle.driver_rules.specs.Scripts.{IsDone, Script}
use Rattle.driver_rules.specs.Stops.{has_loss}
use Rattle.history_rules.specs.Given.{UnforgedRun}
use Rattle.history_rules.specs.Histories.{History}
use Rattle.history_rules.specs.Honest.{IsHonest}
use Rattle.history_rules.specs.Stored.{PutsAreFlat, StoreTrue}
use Rattle.driver_rules.specs.Spent.{SpentRule}
use Rattle.run_jobs.specs.Ends.{IsEndOf}
use Rattle.run_jobs.specs.declared.ends.End.{End}
use Rattle.run_jobs.specs.declared.ends.End.TheVariants as ends

-- a run that came to its end has these entries, the newest first, and its store tells these calls and was handed these plan lines
pub record WholeRun (j : JobView) (past : List Entry) (end : End) (told : Option (List Call)) (plans : List PlanLine) : Type 0 where
  -- who makes which entry, and that all is done at the end; the reclaimer's looks, by the slots that the driver keeps as out, and its kicks
  pub script : Script j past
  pub age : Along (KeptAgeRule j) past
  pub kick : Along (KickRule j) past
  -- no frame twice, no stale translation, only drained pages go out, under rising versions
  pub fits : Fits j.epc past
  pub stale : Stale past
  pub evict : Along EvictRule past
  pub rising : Along (RisingRule j.start_version) past
  -- an epoch or a version is refused only where it is used up
  pub spent : Along (SpentRule j) past
  -- the store's calls are those of which the entries tell
  pub store : StoreTrue j past plans told
  -- where no record was forged, all rules hold, and each record that was put has the flat bytes of its page there
  pub history : IfSome told (λ calls. UnforgedRun j.key past calls → History j past × PutsAreFlat j.key past calls)
  -- how it ended
  pub end_is : IsEndOf past end
  -- at Done each operation of each script has its reply, and each processor is outside
  pub done : end ≡ ends.Done → (p : ℕ) → p < length j.scripts → IsDone j past p
  -- over a store that failed nothing and gave each page's last record put, no page was lost, however the run ended. This supposes nothing
  -- of forged records
  pub honest : IfSome told (λ calls. IsHonest calls → has_loss past ≡ false)
