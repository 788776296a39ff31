-- A fault of the whole text is the first.
use Rattle.std.proofs.lemmas.Result.{err_from_is_err_and}
use Rattle.trace_text.specs.declared.edition.Edition.TheVariants as editions
use Rattle.trace_reader.proofs.PieceLaws.{tells_refused}
use Rattle.trace_reader.proofs.reader.read_trace.Goals as goal

pub returns-in_err-feed : goal.returns-in_err-feed
returns-in_err-feed c =
    let p = err_from_is_err_and c.from_residual.result c.from_residual.ensures.1 in
    rw (p.1, p.2) (tells_refused editions.Two _ _ _ _ c.new-reader.ensures c.in_err-feed.ensures)
