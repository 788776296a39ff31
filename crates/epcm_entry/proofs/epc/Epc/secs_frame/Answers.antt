use Rattle.std.proofs.Common.{◌∙◌, ap, sym, arith, length}
use Rattle.epcm_entry.proofs.SecsFrames.{secs_found, secs_none}
use Rattle.epcm_entry.proofs.epc.Epc.secs_frame.Goals as goal

pub returns-then-is_secs_of : goal.returns-then-is_secs_of
returns-then-is_secs_of c =
    let items = c.deref-entry-items.ensures.value in
    rw (← c.self.view_is)
    (secs_found c.self.inside.entries.items c.self.inside.pages.items c.self.invariant.paged c.args.enclave c.loop-number.number
    (omega (arith, ap length items)) (rw (← items) (sym c.is_secs_of.ensures ∙ c.if-is_secs_of.true))
    (rw items at c.loop-number.invariant))

pub returns : goal.returns
returns c =
    let items = c.deref-entry-items.ensures.value in
    rw (← c.self.view_is)
    (secs_none c.self.inside.entries.items c.self.inside.pages.items c.self.invariant.paged c.args.enclave c.loop-number.number
    (omega (arith, ap length items)) (rw items at c.loop-number.invariant))
