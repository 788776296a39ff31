use Rattle.std.proofs.Common.{◌∷◌}
use Rattle.driver_rules.specs.Passes.{free_count, pass, pass_after}
use Rattle.driver_pass.proofs.GoLaws.{entry_goes, first_stands, pass_settles, row_tells}
use Rattle.driver_pass.proofs.laws.passes_go_on.Goals as goal

pub returns-clause-first : goal.returns-clause-first
returns-clause-first c first j = first_stands first j

pub returns-clause-goes : goal.returns-clause-goes
returns-clause-goes c k made j past out d m v e a age tells owned can s = entry_goes k made j past d m a v out e age tells owned can s

pub returns-clause-settles : goal.returns-clause-settles
returns-clause-settles c first j past v free e same s =
    pass_settles first j (e ∷ past) v free (free_count j.epc (e ∷ past)) (pass_after j past e.actor e.event (pass j past)) same s

pub returns-clause-told : goal.returns-clause-told
returns-clause-told c made past e refusal = row_tells made past e refusal
