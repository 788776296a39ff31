use Rattle.std.proofs.Common.{◌≡◌, [], ◌∷◌, ◌++◌, take, reverse}
use Rattle.std.specs.Prelude.{codes}
use Rattle.text_words.specs.Words.{line_text}
use Rattle.trace_text.specs.declared.edition.Edition.TheVariants as editions
use Rattle.trace_text.specs.TraceText.{entries_text}
use Rattle.trace_text.proofs.trace.print_trace.Given as goal

abbrev pub invariant-loop-entry : goal.invariant-loop-entry
invariant-loop-entry l = l.text.items ≡ line_text (codes "trace" ∷ codes "2" ∷ []) ++ entries_text editions.Two
    (reverse (take l.entry-index l.entries))
