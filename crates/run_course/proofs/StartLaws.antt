-- Where nothing is left to any actor, and no write-out is open, nothing is left to the reclaimer.
use Rattle.std.proofs.Common.{◌≡◌, ◌⊎◌, inl, inr, ℕ, Bool, true, false, refl, subst, List, Option, Some, None}
use Rattle.sgx_types.specs.declared.names.Actor.TheVariants as actors
use Rattle.sgx_rules.specs.declared.entries.Entry.{Entry}
use Rattle.sgx_rules.specs.Rules.{Along}
use Rattle.job_grammar.specs.Jobs.{JobView}
use Rattle.driver_rules.specs.Ages.{KeptAgeRule}
use Rattle.driver_rules.specs.Passes.{aside, pass}
use Rattle.driver_rules.specs.Dues.{Finished}
use Rattle.driver_rules.specs.Spares.{outs_kept}
use Rattle.driver_rules.specs.inner.Reclaims.{all_finished, reclaimer_due_by, reclaims_by}
use Rattle.driver_rules.specs.Stops.{is_spent, last_event}
use Rattle.driver_rules.specs.inner.Stops.{frame_started}
use Rattle.driver_pass.specs.inner.Standing.{StandsAt}
use Rattle.driver_pass.specs.inner.Viewed.{aside_by, is_sealing, pass_by, PassView}
use Rattle.driver_reclaim.proofs.NextLaws.{IsOut, IsOutAside, none_out, started_out}

-- no write-out of the reclaimer has started where the pass waits for none
pub none_started : (first : ℕ) (j : JobView) (past : List Entry) (v : PassView) → StandsAt first j past v → Along (KeptAgeRule j) past
    → is_sealing v ≡ false → frame_started (last_event past actors.Reclaimer) ≡ None
none_started first j past v stands age idle = by_start (frame_started (last_event past actors.Reclaimer)) refl
  where
    stood : IsOut (pass j past) ⊎ IsOutAside (aside past) → IsOut (pass_by v.taken v.kicks v.stage) ⊎ IsOutAside (aside_by v.aside)
    stood (inl h) = inl (subst IsOut stands.same h)
    stood (inr h) = inr (subst IsOutAside stands.aside h)

    by_start : (o : Option ℕ) → frame_started (last_event past actors.Reclaimer) ≡ o → o ≡ None
    by_start None is = refl
    by_start (Some f) is = absurd (none_out v idle (stood (started_out j past f age is)))

pub finished_due : (first : ℕ) (j : JobView) (past : List Entry) (v : PassView) (kicked : Bool) → StandsAt first j past v
    → Along (KeptAgeRule j) past → is_sealing v ≡ false → is_spent past ≡ false → all_finished j past ≡ true
    → reclaimer_due_by j past (outs_kept j past) kicked ≡ Finished
finished_due first j past v kicked stands age idle going all =
    rw going (by_start (frame_started (last_event past actors.Reclaimer)) (none_started first j past v stands age idle))
  where
    by_start : (o : Option ℕ) → o ≡ None → reclaims_by j past (outs_kept j past) kicked o ≡ Finished
    by_start None is = rw all refl
    by_start (Some f) is = cc
