use Rattle.std.proofs.Common.{refl}
use Rattle.cached_translations.proofs.ProbeRemove.{gapped_without, drops_without}
use Rattle.cached_translations.proofs.probe_table.ProbeTable.remove.Goals as goal

pub close_gap-requires-clause-gapped : goal.close_gap-requires-clause-gapped
close_gap-requires-clause-gapped c =
    gapped_without c.args.self.now.slots c.args.self.now.probed c.in-Some.at c.args.number c.in-Some.ensures.found

pub returns-in-Some : goal.returns-in-Some
returns-in-Some c = record {
  drops =
      drops_without c.args.self.now.slots c.args.self.now.probed c.in-Some.at c.args.number c.in-Some.ensures.found c.close_gap.new.slots
      c.close_gap.ensures.same;
}

pub returns-in_default : goal.returns-in_default
returns-in_default c = absurd (c.in_default.ensures.none refl c.requires.held.0 c.requires.held.1)
