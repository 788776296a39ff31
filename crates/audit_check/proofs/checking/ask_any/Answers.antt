use Rattle.std.proofs.Common.{sym, subst}
use Rattle.audit_check.specs.inner.Tests.{IsActor}
use Rattle.audit_check.proofs.PlaceLaws.{any_actor}
use Rattle.audit_check.proofs.checking.ask_any.Goals as goal

pub ask-requires-clause-actor : goal.ask-requires-clause-actor
ask-requires-clause-actor c =
    subst (λ n. IsActor n c.args.entry.now.actor) (sym c.requires.cpus) (any_actor c.args.entry.now.actor)
