-- The first line is refused, or one behind it, or all are taken.
use Rattle.std.proofs.Common.{◌≡◌, ◌++◌, ◌∷◌, eqb, false, append_assoc, refl, rules}
use Rattle.std.proofs.lemmas.List.Elements.{All-append}
use Rattle.trace_reader.specs.inner.Lines.{joined, taken}
use Rattle.trace_reader.proofs.PieceLaws.{refused_behind, refused_more, taken_behind}
use Rattle.trace_reader.proofs.reader.take_whole.Goals as goal

pub returns-else-branch-clause-taken : goal.returns-else-branch-clause-taken
returns-else-branch-clause-taken c =
    refused_more c.args.edition (joined (taken c.args.edition c.args.lines.now) ++
    (c.args.part.now ++ c.args.end.now) ++ 10 ∷ c.args.behind.now)
    (taken c.args.edition c.args.lines.now) (taken c.args.edition c.take_first.new.lines)
    ((c.args.part.now ++ c.args.end.now) ++ 10 ∷ c.args.behind.now)
    (c.args.part.now ++ c.args.end.now) c.args.behind.now c.in_ok-take_first.field-0
    (append_assoc (joined (taken c.args.edition c.args.lines.now)) (c.args.part.now ++ c.args.end.now) (10 ∷ c.args.behind.now))
    (All-append (λ b. eqb b 10 ≡ false) c.args.part.now c.args.end.now c.requires.part c.requires.end)
    refl c.in_ok-take_first.ensures.taken c.if-branch.false

pub returns-in_ok-to_vec-in-Some-clause-taken : goal.returns-in_ok-to_vec-in-Some-clause-taken
returns-in_ok-to_vec-in-Some-clause-taken c =
    taken_behind c.args.edition (taken c.args.edition c.args.lines.now) (taken c.args.edition c.take_first.new.lines)
    (taken c.args.edition c.take_lines.new.self)
    (c.args.part.now ++ c.args.end.now) c.args.behind.now c.in-Some.rest.now c.in_ok-to_vec-in-Some.field-0.items c.in_ok-take_first.field-0
    c.in_ok-take_first.ensures.taken c.if-branch.true
    (rw c.in-Some.is at c.in_ok-rest.ensures.taken) (search rules)

pub returns-in-None-clause-taken : goal.returns-in-None-clause-taken
returns-in-None-clause-taken c =
    refused_behind c.args.edition (taken c.args.edition c.args.lines.now) (taken c.args.edition c.take_first.new.lines)
    (taken c.args.edition c.take_lines.new.self)
    (c.args.part.now ++ c.args.end.now) c.args.behind.now c.in_ok-take_first.field-0
    c.in_ok-take_first.ensures.taken c.if-branch.true (rw c.in-None.is at c.in_ok-rest.ensures.taken)
