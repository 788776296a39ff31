use Rattle.std.proofs.Common.{◌≡◌, Ok, sym, ◌∙◌}
use Rattle.epcm_entry.specs.inner.EntryView.{claim_answer}
use Rattle.epcm_entry.specs.inner.Epc.{entry_at}
use Rattle.evict_reload.specs.inner.Sights.{drain_sight, slot_sight, use_sight}
use Rattle.evict_reload.proofs.StartLaws.{seals}
use Rattle.version_array.specs.inner.Versions.{is_spent_at}
use Rattle.evict_reload.proofs.write_out.ewb_start.Goals as goal

pub returns-in_err-claim_seal-clause-row : goal.returns-in_err-claim_seal-clause-row
returns-in_err-claim_seal-clause-row c =
    let idle : claim_answer (entry_at c.args.epc.now c.args.frame.0) ≡ Ok tt =
    seals c.args.epc.now c.args.frame.0 (use_sight c.args.epc.now c.args.va.now.pages c.args.frame.0 c.args.slot)
    (slot_sight c.args.epc.now c.args.va.now.pages c.args.slot) (drain_sight c.args.epc.now c.args.tracks.now c.args.frame.0)
    (is_spent_at c.args.versions.now) (sym c.start_refusal.ensures ∙ c.in_default.is) in
    cc (c.claim_seal.ensures.answer, c.in_err-claim_seal.was)
