use Rattle.driver_rules.proofs.OutLaws.{ages_kept, none_occupied, outs_same}
use Rattle.driver_rules.proofs.laws.kept_slots_are_out.Goals as goal

pub returns : goal.returns
returns c = record { none = none_occupied; outs = outs_same; ages = ages_kept }
