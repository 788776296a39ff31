-- What the end of a write-out keeps, and what the pass and the tables say behind it.
use Rattle.std.specs.Prelude.{ℕ, List, false}
use Rattle.sgx_rules.specs.declared.entries.Entry.{Entry}
use Rattle.job_grammar.specs.Jobs.{JobView}
use Rattle.driver_rules.specs.Dues.{IsNext}
use Rattle.driver_rules.specs.Spares.{outs_kept}
use Rattle.driver_rules.specs.inner.Reclaims.{going_due}
use Rattle.driver_tables.specs.declared.driver.Driver.{Driver}
use Rattle.driver_pass.specs.inner.Viewed.{PassView}
use Rattle.driver_reclaim.specs.inner.After.{StandsBehind}
use Rattle.driver_reclaim.specs.inner.Kept.{KeepsReclaim}
use Rattle.driver_reclaim.specs.inner.Shown.{ShowsEntry}

pub record IsEndedOut (first : ℕ) (j : JobView) (past : List Entry) (old : Driver) (e : Entry) (v : PassView) (new : Driver) : Type 0 where
  pub due : IsNext (going_due j past (outs_kept j past) false) e.event
  pub kept : KeepsReclaim first j past e.event
  -- .. before it is decided whether it works
  pub stands : StandsBehind first j past e v
  pub shows : ShowsEntry j past e old new
