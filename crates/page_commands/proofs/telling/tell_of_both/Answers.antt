use Rattle.std.proofs.Common.{◌∙◌, Err, ap, subst}
use Rattle.io_edges.specs.Sinks.{GivesPart, followed_by}
use Rattle.page_commands.specs.Says.{Tells}
use Rattle.page_commands.proofs.EndLaws.{both_broke, both_told, none_told, telling_ends}
use Rattle.page_commands.proofs.telling.tell_of_both.Goals as goal

pub returns-in-Err-clause-says : goal.returns-in-Err-clause-says
returns-in-Err-clause-says g c =
    none_told (g.J.Source.left c.args.job.now) (g.O.Source.left c.args.old.now) _ (Tells c.args.telling) c.in-Err.status _ _
    c.in-Err.ensures.told

pub returns-in-Ok-give-clause-says : goal.returns-in-Ok-give-clause-says
returns-in-Ok-give-clause-says g c =
    let said = c.in-Ok-give.ensures.gave in
    both_told (g.J.Source.left c.args.job.now) (g.O.Source.left c.args.old.now) _ c.in-Ok.traced.job c.in-Ok.traced.entries.items
    (Tells c.args.telling) c.in-Ok-give.status said.0 _ _ (telling_ends c.args.telling _ _ _ _ said.1) c.in-Ok.ensures.job
    c.in-Ok.ensures.entries said.1 (said.2 ∙ ap (λ o. followed_by (g.K.Sink.given o) said.0) c.in-Ok.ensures.untold)

pub returns-in-Err-Failed-clause-says : goal.returns-in-Err-Failed-clause-says
returns-in-Err-Failed-clause-says g c =
    let said = c.in-Err-Failed.ensures.broke (ap Err c.in-Err-Failed.field-0-is) in
    both_broke (g.J.Source.left c.args.job.now) (g.O.Source.left c.args.old.now) _ c.in-Ok.traced.job c.in-Ok.traced.entries.items
    (Tells c.args.telling) said.0 said.1 _ _ c.in-Ok.ensures.job c.in-Ok.ensures.entries said.2
    (subst (λ o. GivesPart (g.K.Sink.given o) (g.K.Sink.given c.give.new.out) said.1) c.in-Ok.ensures.untold said.3)
