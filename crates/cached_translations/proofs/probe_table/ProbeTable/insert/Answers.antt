use Rattle.cached_translations.proofs.ProbeInsert.{probed_insert, adds_insert}
use Rattle.cached_translations.proofs.probe_table.ProbeTable.insert.Goals as goal

pub invariant_of-self : goal.invariant_of-self
invariant_of-self c =
    let table = c.args.self.now in
    record {
      probed = probed_insert table.slots table.probed (record { number = c.args.number; place = c.args.place }) c.free_slot-at.result
          c.free_slot-at.ensures c.requires.absent;
    }

pub returns : goal.returns
returns c =
    let table = c.args.self.now in
    record {
      adds = adds_insert table.slots table.probed (record { number = c.args.number; place = c.args.place }) c.free_slot-at.result
          c.free_slot-at.ensures;
    }
