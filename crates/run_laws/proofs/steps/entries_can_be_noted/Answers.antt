use Rattle.std.proofs.Common.{refl}
use Rattle.due_tables.specs.inner.Holding.{mode_of}
use Rattle.run_laws.proofs.EntryLaws.{among, can_hold, can_note}
use Rattle.run_laws.proofs.steps.entries_can_be_noted.Goals as goal

pub returns-clause-note : goal.returns-clause-note
returns-clause-note c made j past told told' d d' m m' t e before k n is = can_note made j past told told' d d' m m' t e before k n is

pub returns-clause-hold : goal.returns-clause-hold
returns-clause-hold c made j past told told' d d' m m' t e before k n is = can_hold made j past told told' d d' m m' t e before k n is

pub returns-clause-among : goal.returns-clause-among
returns-clause-among c made j past told told' d d' m m' t e k n =
    among made j past told told' d d' m m' t e (mode_of m e.actor) k n refl
