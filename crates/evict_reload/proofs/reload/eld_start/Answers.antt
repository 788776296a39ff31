use Rattle.std.proofs.Common.{◌≡◌, Ok, sym, ◌∙◌}
use Rattle.epcm_entry.specs.inner.EntryView.{claim_answer}
use Rattle.epcm_entry.specs.inner.Epc.{entry_at}
use Rattle.evict_reload.specs.inner.Sights.{load_sight, slot_sight}
use Rattle.epcm_entry.specs.inner.Sights.{sight_in}
use Rattle.evict_reload.proofs.CountLaws.{child_beside, few_children, loading_counted, start_free, start_numbered}
use Rattle.evict_reload.proofs.StartLaws.{loads, loads_free}
use Rattle.evict_reload.proofs.reload.eld_start.Goals as goal

pub returns-in_err-claim_load-clause-row : goal.returns-in_err-claim_load-clause-row
returns-in_err-claim_load-clause-row c =
    let idle : claim_answer (entry_at c.args.epc.now c.args.frame.0) ≡ Ok tt =
    loads c.args.epc.now c.args.frame.0 (load_sight c.args.epc.now c.args.va.now.made c.args.secs.now c.args.page)
    (slot_sight c.args.epc.now c.args.va.now.pages c.args.slot)
    (sym c.start_refusal.ensures ∙ c.in_default.is) in
    cc (c.claim_load.ensures.answer, c.in_err-claim_load.was)

pub claim_load-requires-clause-free_or_busy : goal.claim_load-requires-clause-free_or_busy
claim_load-requires-clause-free_or_busy c =
    loads_free c.args.epc.now c.args.frame.0 (load_sight c.args.epc.now c.args.va.now.made c.args.secs.now c.args.page)
    (slot_sight c.args.epc.now c.args.va.now.pages c.args.slot) (sym c.start_refusal.ensures ∙ c.in_default.is)

pub child_comes-requires : goal.child_comes-requires
child_comes-requires c = few_children c.args.epc.now c.args.secs.now c.args.page.enclave c.requires.small c.requires.counted

pub returns-clause-beside : goal.returns-clause-beside
returns-clause-beside c = rw c.child_comes.ensures (child_beside c.args.secs.now c.args.page c.requires.places)

pub returns-clause-counts : goal.returns-clause-counts
returns-clause-counts c =
    let row = sym c.start_refusal.ensures ∙ c.in_default.is in
    let free = start_free c.args.epc.now c.args.frame.0 (load_sight c.args.epc.now c.args.va.now.made c.args.secs.now c.args.page)
    (slot_sight c.args.epc.now c.args.va.now.pages c.args.slot) row in
    rw (c.child_comes.ensures, c.in_ok-claim_load.ensures.done)
    (loading_counted c.args.epc.now c.args.secs.now c.args.frame.0 c.args.page free.0 free.1 c.requires.places
    (start_numbered (sight_in c.args.epc.now c.args.frame.0) c.args.epc.now c.args.va.now.made c.args.secs.now c.args.page
    (slot_sight c.args.epc.now c.args.va.now.pages c.args.slot) c.requires.places row) c.requires.counted)
