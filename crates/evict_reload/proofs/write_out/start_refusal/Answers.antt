use Rattle.std.proofs.Common.{sym, ◌∙◌, rules}
use Rattle.epcm_entry.specs.inner.Sights.{sight_in}
use Rattle.evict_reload.specs.inner.Sights.{drain_sight, slot_sight, use_sight}
use Rattle.evict_reload.proofs.StartLaws.{stay_first}
use Rattle.version_array.specs.inner.Versions.{is_spent_at}
use Rattle.evict_reload.proofs.write_out.start_refusal.Goals as goal

pub returns-in-Some : goal.returns-in-Some
returns-in-Some c =
    stay_first (sight_in c.args.epc.now c.args.frame.0) (use_sight c.args.epc.now c.args.va.now.pages c.args.frame.0 c.args.slot)
    (slot_sight c.args.epc.now c.args.va.now.pages c.args.slot) (drain_sight c.args.epc.now c.args.tracks.now c.args.frame.0)
    (is_spent_at c.args.versions.now) c.in-Some.refusal (sym c.is_out_of_range.ensures ∙ c.if-is_out_of_range.false) (search rules)
    (search rules)
    (search rules) (sym c.stay_refusal.ensures ∙ c.in-Some.is)
