-- What is told of a refusal or of a kick is told in each edition.
use Rattle.trace_lines.proofs.entries.event.Goals as goal

pub returns-then-eq-clause-told : goal.returns-then-eq-clause-told
returns-then-eq-clause-told c = c.refused.ensures.told c.args.edition

pub returns-then-eq-3-clause-told : goal.returns-then-eq-3-clause-told
returns-then-eq-3-clause-told c = c.kick.ensures.told c.args.edition
