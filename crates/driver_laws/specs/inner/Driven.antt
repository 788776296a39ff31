-- A list of entries that the driver and the machine made together.
use Rattle.std.specs.Prelude.{List}
use Rattle.sgx_rules.specs.declared.entries.Entry.{Entry}
use Rattle.sgx_rules.specs.Rules.{Along, FitsRule}
use Rattle.sgx_types.specs.Making.{Making}
use Rattle.machine_copies.specs.inner.Once.{KeepsMoves}
use Rattle.job_grammar.specs.Jobs.{JobView}
use Rattle.driver_rules.specs.Ages.{AgeRule, KickRule}
use Rattle.driver_rules.specs.Scripts.{ScriptRule}

-- each instruction is answered by its row and as flat memory, takes only free frames, and is the one that is due
pub record IsDriven (k : Making) (j : JobView) (past : List Entry) : Type 0 where
  pub moves : KeepsMoves k past
  pub fits : Along (FitsRule k.frames) past
  pub script : Along (ScriptRule j) past
  pub age : Along (AgeRule j) past
  pub kick : Along (KickRule j) past
