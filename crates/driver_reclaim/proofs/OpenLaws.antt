-- The page whose write-out is open has started to go out.
use Rattle.std.proofs.Common.{◌≡◌, ℕ, true, refl, sym, ◌∙◌, ap, subst, List, Option, Some, None, is_some}
use Rattle.std.proofs.Common.{slice_get}
use Rattle.std.proofs.lemmas.Option.{same_Some}
use Rattle.std.specs.Option.{IsSomeAnd}
use Rattle.sgx_types.specs.Making.{Making}
use Rattle.sgx_rules.specs.declared.entries.Entry.{Entry}
use Rattle.sgx_rules.specs.inner.Starts.{bare_start, without_place}
use Rattle.sgx_rules.specs.Starts.{open_start, Start}
use Rattle.job_grammar.specs.Jobs.{JobView}
use Rattle.machine_laws.proofs.ColumnLaws.{sealing_is, start_is}
use Rattle.sgx_machine.specs.inner.Parts.{Parts, state_of}
use Rattle.driver_rules.specs.Places.{Leaving, place}
use Rattle.driver_laws.specs.inner.Sound.{is_absent, is_write_start}
use Rattle.driver_laws.specs.inner.Stages.{HasAside, IsGoing}
use Rattle.driver_tables.specs.declared.driver.Driver.{Driver}
use Rattle.driver_pass.specs.declared.stages.Aside.{Aside}
use Rattle.driver_pass.specs.declared.stages.Aside.TheVariants as asides
use Rattle.driver_pass.specs.declared.stages.Form.TheVariants as forms
use Rattle.driver_pass.specs.declared.stages.Stage.{Stage}
use Rattle.driver_pass.specs.declared.stages.Stage.TheVariants as stages
use Rattle.driver_pass.specs.declared.stages.Taken.{Taken}
use Rattle.driver_pass.specs.inner.Standing.{IsAside}
use Rattle.driver_pass.specs.inner.Viewed.{aside_by, is_sealing, PassView, sealing_at, sealing_in, sealing_with}
use Rattle.driver_reclaim.specs.inner.Ready.{Ready}
use Rattle.driver_reclaim.specs.inner.Stored.{IsOpen, IsStartedPass, StartsOut}
use Rattle.driver_reclaim.proofs.RowLaws.{same_frame}
use Rattle.driver_reclaim.proofs.SeenLaws.{columns}
use Rattle.driver_reclaim.proofs.StageLaws.{in_tries}

-- it goes out beside the passes, or it is one of the pass
pub data IsSealingOf (v : PassView) (one : Taken) : Type 0 where
  Besides : (v.aside ≡ asides.Going one) → IsSealingOf v one
  OfPass : (next : ℕ) → (v.stage ≡ stages.Tries next forms.Sealing) → (slice_get v.taken next ≡ Some one) → IsSealingOf v one

pub sealing_of : (v : PassView) (one : Taken) → sealing_in v ≡ Some one → IsSealingOf v one
sealing_of v one is = by_aside v.aside refl is
  where
    by_stage : (stage : Stage) → v.stage ≡ stage → sealing_at v.taken stage ≡ Some one → IsSealingOf v one
    by_stage (stages.Tries next forms.Sealing) at found = OfPass next at found
    by_stage stage at found = cc

    by_aside : (x : Aside) → v.aside ≡ x → sealing_with x (sealing_at v.taken v.stage) ≡ Some one → IsSealingOf v one
    by_aside (asides.Going t) at found = Besides (at ∙ ap asides.Going (same_Some t one found))
    by_aside asides.None at found = by_stage v.stage refl found
    by_aside (asides.ToGo t) at found = by_stage v.stage refl found

pub record IsGoingOut (past : List Entry) (one : Taken) : Type 0 where
  pub at : place past one.page ≡ Leaving one.frame.0
  pub start : Start
  pub opened : open_start past one.frame.0 ≡ Some start
  pub write : is_write_start (open_start past one.frame.0) ≡ true

going_out : (past : List Entry) (one : Taken) → place past one.page ≡ Leaving one.frame.0 → IsGoing past one.page → IsGoingOut past one
going_out past one at going =
    let same = same_frame past one.page going.frame one.frame.0 going.leaving at in
    record {
      at = at;
      start = going.start;
      opened = subst (λ n. open_start past n ≡ Some going.start) same going.opened;
      write = subst (λ n. is_write_start (open_start past n) ≡ true) same going.write;
    }

module _ (made : Making) (j : JobView) (past : List Entry) (v : PassView) (d : Driver) (m : Parts) (r : Ready made j past v d m) where
  pub goes_out : (one : Taken) → IsSealingOf v one → IsGoingOut past one
  goes_out one (Besides is) =
      going_out past one (subst (IsAside past) is r.stands.leaves)
      (subst (HasAside past) (r.stands.aside ∙ ap aside_by is) r.agrees.pages.aside).1
  goes_out one (OfPass next is found) =
      let t = in_tries made j past v d m r next forms.Sealing is in
      subst (IsGoingOut past) (same_Some t.one one (sym t.found ∙ found)) (going_out past t.one t.at t.has.page)

  starts_out : (one : Taken) → sealing_in v ≡ Some one → StartsOut one (state_of m) d.states.counts
  starts_out one is =
      let out = goes_out one (sealing_of v one is) in
      record {
        leaving =
            sealing_is (columns made j past d m r.agrees) one.frame.0 ∙ r.agrees.pages.sealing one.frame.0 ∙ out.write;
        start = without_place out.start;
        opened = start_is (columns made j past d m r.agrees) one.frame.0 ∙ ap bare_start out.opened;
        placed = r.agrees.shows.placed one.page (ap is_absent out.at);
      }

  pub can_store : is_sealing v ≡ true → IsOpen v (state_of m) × IsStartedPass v (state_of m) d.states.counts
  can_store h = by_one (sealing_in v) refl h
    where
      by_one : (o : Option Taken) → sealing_in v ≡ o → is_some o ≡ true
          → IsSomeAnd o (λ one. (state_of m).is_sealing one.frame.0 ≡ true) × IsSomeAnd o (λ one. StartsOut one
          (state_of m) d.states.counts)
      by_one None is k = cc
      by_one (Some one) is k = let out = starts_out one is in (out.leaving, out)
