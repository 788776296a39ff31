use Rattle.std.proofs.Common.{◌∙◌, ap, count_by}
use Rattle.epcm_entry.proofs.Frames.{count_is}
use Rattle.epcm_entry.proofs.epc.Epc.free_count.Goals as goal

pub returns : goal.returns
returns c = c.count.ensures ∙ ap (count_by (λ b. b)) c.self.invariant.marked ∙ count_is _ _ _ c.self.invariant.paged c.self.view_is
