use Rattle.run_laws.proofs.KickLaws.{keepers_in_order, kick_next, kicked_more, kicks_in_order}
use Rattle.run_laws.proofs.steps.kicks_are_next.Goals as goal

pub returns-clause-next : goal.returns-clause-next
returns-clause-next c made j past d m v ps done p rest stands whole due going splits =
    kick_next made.first_epoch j past v ps stands whole due made d m done p rest going splits

pub returns-clause-more : goal.returns-clause-more
returns-clause-more c = kicked_more

pub returns-clause-order : goal.returns-clause-order
returns-clause-order c first j past v ps stands whole due = kicks_in_order first j past v ps stands whole due

pub returns-clause-keepers : goal.returns-clause-keepers
returns-clause-keepers c = keepers_in_order
