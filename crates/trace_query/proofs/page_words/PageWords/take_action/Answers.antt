use Rattle.std.proofs.Common.{refl, sym, ◌∙◌}
use Rattle.flat_machine.specs.inner.Parts.{memory_of}
use Rattle.trace_query.proofs.TakenLaws.{asked_visible, asked_actor, unasked}
use Rattle.trace_query.proofs.page_words.PageWords.take_action.Goals as goal

pub apply-requires-clause-visible : goal.apply-requires-clause-visible
apply-requires-clause-visible c = asked_visible c.args.actor c.args.action.now (sym c.is_asked.ensures ∙ c.if-is_asked.true)

pub apply-requires-clause-actor : goal.apply-requires-clause-actor
apply-requires-clause-actor c = asked_actor c.args.actor c.args.action.now (sym c.is_asked.ensures ∙ c.if-is_asked.true)

pub returns-else-is_asked-clause-takes : goal.returns-else-is_asked-clause-takes
returns-else-is_asked-clause-takes c =
    let idle = unasked (memory_of c.args.self.now.flat) c.args.actor c.args.action.now (sym c.is_asked.ensures ∙ c.if-is_asked.false) in
    record {
      memory = sym idle.memory;
      writes = sym idle.writes;
      page = sym idle.page;
      added = λ g. refl;
      lists = λ w. refl;
      len = refl;
    }
