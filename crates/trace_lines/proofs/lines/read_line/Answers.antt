-- What was printed again is not the line, which is then no readable entry's.
use Rattle.std.proofs.Common.{◌≡◌, true, false, List, ℕ, ◌++◌, sym, ap, ◌∙◌}
use Rattle.std.proofs.lemmas.Slice.Eq.{bytes_eq-Decides}
use Rattle.std.proofs.lemmas.Option.{same_Some}
use Rattle.trace_text.specs.TraceText.{spelling}
use Rattle.trace_lines.proofs.LineReads.{line_read}
use Rattle.trace_lines.proofs.lines.read_line.Goals as goal

pub returns-else-eq-clause-only : goal.returns-else-eq-clause-only
returns-else-eq-clause-only c e readable same =
    let own : c.in-Some.entry ≡ e = same_Some _ _
    (sym c.in-Some.is ∙ c.in_ok-entry.ensures.read ∙ line_read c.args.edition e c.args.line.now readable same) in
    let printed = c.print_spelling.ensures.text
    ∙ ap (λ (t : List ℕ). t ++ spelling c.args.edition c.in-Some.entry) (c.in_ok-reserve.ensures.items ∙ c.clear.ensures.items)
    ∙ ap (spelling c.args.edition) own in
    let is : c.as_slice.result.now ≡ c.args.line.now = c.as_slice.ensures.value ∙ printed ∙ sym same in
    absurd (let f : false ≡ true = sym c.if-eq.false ∙ c.eq.ensures ∙ (bytes_eq-Decides _ _).1 is in cc)
