use Rattle.std.proofs.Common.{arith}
use Rattle.epcm_entry.proofs.Frames.{in_entries, entry_is}
use Rattle.epcm_entry.proofs.epc.Epc.entry.Goals as goal

pub index-requires : goal.index-requires
index-requires c = omega (arith, in_entries _ _ _ c.self.invariant.paged c.self.view_is _ c.requires, c.self.inside.entries.ok.0)

pub returns : goal.returns
returns c = entry_is _ _ _ c.self.invariant.paged c.self.view_is _ c.requires _ c.index.ensures
