use Rattle.std.proofs.Common.{if◌then◌else◌, Some, sym, ap, ◌∙◌}
use Rattle.std.specs.HashMap.{get}
use Rattle.trace_places.specs.Places.{version_by}
use Rattle.trace_places.specs.inner.Tables.{gone_in}
use Rattle.trace_places.proofs.places.Places.note_gone.Goals as goal

pub returns-in-Some-clause-gone : goal.returns-in-Some-clause-gone
returns-in-Some-clause-gone c = λ g.
    let updates = rw c.unwrap.ensures at c.insert-kept.ensures.updates in
    updates.0 g
    ∙ ap (λ o. version_by o g (gone_in c.args.self.now g)) (sym c.in-Some.is)
