use Rattle.std.proofs.Common.{ap, ◌∙◌}
use Rattle.sgx_types.specs.Pages.{page_at}
use Rattle.due_tables.specs.inner.Asked.{frame_seen, last_save_of, resumes_by}
use Rattle.due_tables.specs.inner.TcsTurns.{tcs_at}
use Rattle.due_tables.proofs.turns.Turns.resumption.Goals as goal

pub returns : goal.returns
returns c =
    let tcs = page_at c.args.interruption.enclave c.args.interruption.tcs in
    c.resumes.ensures
    ∙ ap (resumes_by (frame_seen c.args.driver.now c.args.self.now) tcs (last_save_of tcs.enclave (tcs_at c.args.self.now.tcs tcs)))
    c.page_behind.ensures
