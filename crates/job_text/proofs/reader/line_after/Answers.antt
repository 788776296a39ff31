use Rattle.std.proofs.Common.{arith, refl, sym}
use Rattle.job_text.proofs.LineLoop.{lines_of-few}
use Rattle.job_text.proofs.WholeLaws.{whole_complete}
use Rattle.job_text.proofs.reader.line_after.Goals as goal

pub overflow_add-result : goal.overflow_add-result
overflow_add-result c = omega (arith, c.line_count.ensures, lines_of-few c.args.text.now, c.requires)

pub returns-then-is_incomplete : goal.returns-then-is_incomplete
returns-then-is_incomplete c = rw c.line_count.ensures refl

pub returns-else-is_incomplete : goal.returns-else-is_incomplete
returns-else-is_incomplete c = whole_complete 0 _ _ (sym c.if-is_incomplete.ensures)
