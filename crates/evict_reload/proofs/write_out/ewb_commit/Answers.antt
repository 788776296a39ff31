use Rattle.std.proofs.Common.{ap, sym, ◌∙◌}
use Rattle.epcm_entry.specs.inner.Sights.{held}
use Rattle.evict_reload.proofs.CountLaws.{out_beside, page_out, page_there, sealing_within}
use Rattle.evict_reload.proofs.write_out.ewb_commit.Goals as goal

pub page_goes-requires : goal.page_goes-requires
page_goes-requires c =
    page_there c.args.epc.now c.args.secs.now c.args.frame.0 c.in-Valid.page c.in-Valid.kind c.in-Valid.perm
    (sealing_within c.args.epc.now c.args.frame.0 c.requires.started) c.requires.places c.requires.counted
    (ap held (sym c.entry.ensures ∙ c.in-Valid.is))

pub returns-clause-beside : goal.returns-clause-beside
returns-clause-beside c =
    rw (c.page_goes.ensures) (out_beside c.clear.new.self c.args.secs.now c.in-Valid.page c.in-Valid.kind c.requires.places)

pub returns-clause-counts : goal.returns-clause-counts
returns-clause-counts c =
    rw (c.page_goes.ensures, c.clear.ensures)
    (page_out c.args.epc.now c.args.secs.now c.args.frame.0 c.in-Valid.page c.in-Valid.kind c.in-Valid.perm
    (sealing_within c.args.epc.now c.args.frame.0 c.requires.started) c.requires.places c.requires.counted
    (ap held (sym c.entry.ensures ∙ c.in-Valid.is)))
