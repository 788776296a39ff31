use Rattle.std.proofs.Common.{◌≡◌, IfSome, subst, sym, ◌∙◌}
use Rattle.sgx_types.specs.Pages.{is_own_page}
use Rattle.evict_reload.specs.inner.Sights.{is_kind_own}
use Rattle.evict_reload.proofs.CountLaws.{fails_beside, in_beside, load_counted, load_fails, loading_within, page_in}
use Rattle.evict_reload.proofs.reload.eld_commit.Goals as goal

pub child_fails-requires : goal.child_fails-requires
child_fails-requires c =
    load_counted c.args.epc.now c.args.secs.now c.args.frame.0 c.args.page
    (loading_within c.args.epc.now c.args.frame.0 c.args.page c.requires.started) c.requires.places c.requires.counted c.requires.started

pub returns-in-Some-clause-beside : goal.returns-in-Some-clause-beside
returns-in-Some-clause-beside c = rw c.child_fails.ensures (fails_beside c.args.secs.now c.args.page c.requires.places)

pub returns-in-Some-clause-counts : goal.returns-in-Some-clause-counts
returns-in-Some-clause-counts c =
    rw (c.child_fails.ensures, c.clear.ensures)
    (load_fails c.args.epc.now c.args.secs.now c.args.frame.0 c.args.page
    (loading_within c.args.epc.now c.args.frame.0 c.args.page c.requires.started) c.requires.places c.requires.counted c.requires.started)

pub returns-clause-beside : goal.returns-clause-beside
returns-clause-beside c =
    rw c.page_comes.ensures (in_beside c.put_page.new.epc c.args.secs.now c.args.page c.unwrap-kind.result.0 c.requires.places)

pub returns-clause-counts : goal.returns-clause-counts
returns-clause-counts c =
    rw (c.page_comes.ensures, c.put_page.ensures)
    (page_in c.args.epc.now c.args.secs.now c.args.frame.0 c.args.page c.unwrap-kind.result.0 c.unwrap-kind.result.1
    c.unwrap-plain.result.now
    (loading_within c.args.epc.now c.args.frame.0 c.args.page c.requires.started) c.requires.places c.requires.counted c.requires.started
    (subst (λ o. IfSome o (λ x. is_own_page c.args.page ≡ is_kind_own x.0)) (sym c.kind_in.ensures ∙ c.unwrap-kind.ensures)
    c.requires.kinds))
