-- How a run ended, by its entries, the newest first.
use Rattle.std.specs.Prelude.{◌≡◌, true, false, List}
use Rattle.sgx_rules.specs.declared.entries.Entry.{Entry}
use Rattle.driver_rules.specs.Stops.{has_loss, is_spent}
use Rattle.run_jobs.specs.declared.ends.End.{End}
use Rattle.run_jobs.specs.declared.ends.End.TheVariants as ends

-- a run that was stopped is spent; else a page that could not be reloaded tells
abbrev pub IsEndOf : List Entry → End → Type 0
IsEndOf past ends.Done = (is_spent past ≡ false) × (has_loss past ≡ false)
IsEndOf past ends.Bus = (is_spent past ≡ false) × (has_loss past ≡ true)
IsEndOf past ends.Spent = is_spent past ≡ true
