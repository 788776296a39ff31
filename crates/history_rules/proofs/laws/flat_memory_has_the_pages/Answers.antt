use Rattle.history_rules.proofs.HonestLaws.{has_pages}
use Rattle.history_rules.proofs.laws.flat_memory_has_the_pages.Goals as goal

pub returns : goal.returns
returns c = has_pages
