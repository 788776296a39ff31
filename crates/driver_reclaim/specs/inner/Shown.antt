-- The tables behind a turn say what the longer list says.
use Rattle.std.specs.Prelude.{ℕ, ◌≡◌, false, List, ◌∷◌}
use Rattle.sgx_rules.specs.declared.entries.Entry.{Entry}
use Rattle.driver_slots.specs.inner.Keeper.{count_out}
use Rattle.job_grammar.specs.Jobs.{JobView}
use Rattle.driver_rules.specs.Dues.{KicksAll}
use Rattle.driver_rules.specs.Spares.{outs_kept}
use Rattle.driver_rules.specs.inner.Reclaims.{going_due}
use Rattle.driver_laws.specs.inner.Counted.{CountMoves}
use Rattle.driver_tables.specs.declared.driver.Driver.{Driver}
use Rattle.driver_reclaim.specs.declared.turns.PassTurn.{PassTurn}
use Rattle.driver_reclaim.specs.declared.turns.PassTurn.TheVariants as turns
use Rattle.driver_reclaim.specs.inner.After.{kicked_past}
use Rattle.driver_reclaim.specs.inner.Tables.{Shows}

-- tables and holds, and as many slots are out as the entry takes
pub record ShowsEntry (j : JobView) (past : List Entry) (e : Entry) (old new : Driver) : Type 0 where
  pub shows : Shows j new (e ∷ past)
  pub counts : CountMoves past e.event (count_out old.slots) (count_out new.slots)

abbrev pub ShowsAfter : JobView → List Entry → Driver → PassTurn → Driver → Type 0
ShowsAfter j past old (turns.One e) new = ShowsEntry j past e old new
ShowsAfter j past old (turns.Seal e) new = ShowsEntry j past e old new
ShowsAfter j past old (turns.Spent e) new = ShowsEntry j past e old new
ShowsAfter j past old (turns.Kicks bits) new =
    (ps : List ℕ) → going_due j past (outs_kept j past) false ≡ KicksAll ps → Shows j new (kicked_past ps past)
ShowsAfter j past old (turns.Again why) new = new ≡ old
