use Rattle.std.proofs.Common.{◌∙◌, sym}
use Rattle.epcm_entry.proofs.Frames.{length_is, epc_is}
use Rattle.epcm_entry.proofs.epc.Epc.frames.Goals as goal

pub returns-clause-count : goal.returns-clause-count
returns-clause-count c = c.len.ensures ∙ c.self.inside.entries.ok.0 ∙ sym (length_is _ _ _ c.self.invariant.paged c.self.view_is)

pub returns-clause-sound : goal.returns-clause-sound
returns-clause-sound c = epc_is _ _ _ c.self.invariant.paged c.self.view_is c.self.invariant.small c.self.invariant.pages
