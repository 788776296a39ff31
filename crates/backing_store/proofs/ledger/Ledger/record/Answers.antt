use Rattle.std.proofs.Common.{ap, sym, ◌∙◌}
use Rattle.std.specs.List.{slice_get}
use Rattle.backing_store.proofs.AnswerLaws.{read_at, record_at-reverse}
use Rattle.backing_store.proofs.ledger.Ledger.record.Goals as goal

pub returns : goal.returns
returns c =
    let place = c.args.place in
    read_at c.deref.result.now place c.get.result c.get.ensures.lookup ∙ ap (λ xs. slice_get xs place) c.deref.ensures.value
    ∙ sym (record_at-reverse place c.args.self.now.puts.items)
