use Rattle.history_rules.proofs.HonestLaws.{gifts_more, honest_before, last_sealed}
use Rattle.history_rules.proofs.laws.honest_stores_give_the_last_record.Goals as goal

pub returns : goal.returns
returns c = record { first = λ g f slot at. cc; more = gifts_more; before = honest_before; last = last_sealed }
