use Rattle.std.proofs.Common.{append_assoc}
use Rattle.picture_text.proofs.lines.write_cause.Goals as goal

pub returns-clause-text : goal.returns-clause-text
returns-clause-text c =
    simp (c.write_parts-2.ensures.text, c.print_spelling.ensures.text, c.write_parts.ensures.text, append_assoc)
