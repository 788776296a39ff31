-- A fault of the text is the reader's. There are fewer entries than bytes.
use Rattle.std.proofs.Common.{◌≡◌, ◌≤◌, ◌<◌, ◌^◌, Err, length, ap, subst, sym, ◌∙◌, arith}
use Rattle.std.proofs.lemmas.Result.{err_from_is_err_and}
use Rattle.trace_reader.proofs.PieceLaws.{tells_refused}
use Rattle.trace_reader.specs.inner.Outcomes.{Tells}
use Rattle.trace_reader.specs.declared.refusals.TraceRefusal.{TraceRefusal}
use Rattle.trace_text.specs.declared.edition.Edition.TheVariants as editions
use Rattle.trace_migrate.proofs.TextLaws.{one_error, text_long, told_whole}
use Rattle.trace_migrate.proofs.migrating.migrate.Goals as goal

pub returns-in_err-feed-clause-fault : goal.returns-in_err-feed-clause-fault
returns-in_err-feed-clause-fault c = λ line is.
    (let p = err_from_is_err_and c.from_residual.result c.from_residual.ensures.1 in
    subst (λ (why : TraceRefusal). Tells editions.One c.args.bytes.now (Err why)) (sym p.2 ∙ one_error c.from_residual.result _ _ p.1 is)
    (tells_refused editions.One _ _ _ _ c.new-reader.ensures c.in_err-feed.ensures))

pub number_arrays-requires : goal.number_arrays-requires
number_arrays-requires c =
    let told = told_whole _ _ c.args.bytes.now c.in_ok-entries.entries.items c.new-reader.ensures c.in_ok-feed.ensures
    c.in_ok-entries.ensures
    in
    omega (arith, ap length c.deref_mut.ensures.value, text_long editions.One c.in_ok-entries.entries.items, ap length told.1, c.requires)
