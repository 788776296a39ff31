-- Whether the reclaimer works is all that is decided behind an entry.
use Rattle.std.proofs.Common.{◌≡◌, ◌+◌, ℕ, refl, length, is_some}
use Rattle.job_grammar.specs.declared.jobs.Marks.{Marks}
use Rattle.driver_pass.specs.declared.stages.Stage.{Stage}
use Rattle.driver_pass.specs.declared.stages.Stage.TheVariants as stages
use Rattle.driver_pass.specs.inner.Noted.{decided, decided_stage}
use Rattle.driver_pass.specs.inner.Viewed.{count_aside, is_amid, is_amid_stage, is_kicked, is_kicked_stage, is_sealing, PassView}
use Rattle.driver_pass.specs.inner.Viewed.{sealing_at, sealing_with, still_out, waiting_by}

module _ (marks : Marks) (free : ℕ) (v : PassView) where
  pub settled_amid : is_amid (decided marks free v) ≡ is_amid v
  settled_amid = by_stage v.stage
    where
      by_stage : (stage : Stage) → is_amid_stage (decided_stage marks free stage) ≡ is_amid_stage stage
      by_stage (stages.Idle works) = refl
      by_stage stage = refl

  pub settled_kicked : is_kicked (decided marks free v) ≡ is_kicked v
  settled_kicked = by_stage v.stage
    where
      by_stage : (stage : Stage) → is_kicked_stage (decided_stage marks free stage) ≡ is_kicked_stage stage
      by_stage (stages.Idle works) = refl
      by_stage stage = refl

  pub settled_sealing : is_sealing (decided marks free v) ≡ is_sealing v
  settled_sealing = by_stage v.stage
    where
      by_stage : (stage : Stage) → is_some (sealing_with v.aside (sealing_at v.taken (decided_stage marks free stage)))
          ≡ is_some (sealing_with v.aside (sealing_at v.taken stage))
      by_stage (stages.Idle works) = refl
      by_stage stage = refl

  pub settled_out : still_out (decided marks free v) ≡ still_out v
  settled_out = by_stage v.stage
    where
      by_stage : (stage : Stage) → ◌≡◌ {A = ℕ} (length (waiting_by v.taken (decided_stage marks free stage)) + count_aside v.aside)
          (length (waiting_by v.taken stage) + count_aside v.aside)
      by_stage (stages.Idle works) = refl
      by_stage stage = refl
