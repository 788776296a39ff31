-- Which rules say nothing of a driver, and a history that goes on.
use Rattle.std.specs.Prelude.{Bool, true, false, List}
use Rattle.sgx_rules.specs.declared.entries.Entry.{Entry}
use Rattle.sgx_rules.specs.declared.entries.Event.{Event}
use Rattle.sgx_rules.specs.declared.entries.Event.TheVariants.{Age, Kick, Bus}
use Rattle.job_grammar.specs.Jobs.{JobView}
use Rattle.history_rules.specs.declared.rules.Rule.{Rule}
use Rattle.history_rules.specs.declared.rules.Rule.TheVariants as rules
use Rattle.history_rules.specs.Histories.{RuleSays, Before, Keeps}

-- the rules that say nothing of a driver
abbrev pub is_machines : Rule → Bool
is_machines rules.Script = false
is_machines rules.Age = false
is_machines rules.Kick = false
is_machines _ = true

-- an entry of no instruction: a look, a kick, or why a page did not come back
abbrev pub is_note : Event → Bool
is_note (Age page look) = true
is_note (Kick cpu) = true
is_note (Bus page reason) = true
is_note _ = false

-- .. or a history that goes on: nothing is asked of its end
pub record GoesOn (j : JobView) (past : List Entry) : Type 0 where
  pub script : Before (RuleSays j rules.Script) past
  pub refusal : Keeps j rules.Refusal past
  pub flat : Keeps j rules.Flat past
  pub fits : Keeps j rules.Fits past
  pub stale : Keeps j rules.Stale past
  pub evict : Keeps j rules.Evict past
  pub fresh : Keeps j rules.Fresh past
  pub sealed : Keeps j rules.Sealed past
  pub measure : Keeps j rules.Measure past
  pub age : Keeps j rules.Age past
  pub kick : Keeps j rules.Kick past
