use Rattle.std.proofs.Common.{sym, ◌∙◌}
use Rattle.epcm_entry.specs.inner.Sights.{sight_in}
use Rattle.evict_reload.specs.inner.Sights.{load_sight, slot_sight}
use Rattle.evict_reload.proofs.StartLaws.{page_first}
use Rattle.evict_reload.proofs.reload.start_refusal.Goals as goal

pub returns-in-Some : goal.returns-in-Some
returns-in-Some c =
    page_first (sight_in c.args.epc.now c.args.frame.0) (load_sight c.args.epc.now c.args.va.now.made c.args.secs.now c.args.page)
    (slot_sight c.args.epc.now c.args.va.now.pages c.args.slot) c.in-Some.refusal
    (sym c.is_out_of_range.ensures ∙ c.if-is_out_of_range.false) (sym c.page_refusal.ensures ∙ c.in-Some.is)
