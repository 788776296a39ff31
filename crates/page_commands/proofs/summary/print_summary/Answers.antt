use Rattle.std.proofs.Common.{◌+◌, ◌*◌, ◌%◌, ◌^◌, [], ◌∷◌, reverse}
use Rattle.std.specs.Prelude.{codes}
use Rattle.std.specs.Fmt.{decimal}
use Rattle.std.specs.List.{sum_by}
use Rattle.text_words.specs.Words.{line_text}
use Rattle.page_commands.specs.Summary.{loaded_value, summary_of, xadds}
use Rattle.page_commands.proofs.SumLaws.{four_texts}
use Rattle.page_commands.proofs.summary.print_summary.Goals as goal

pub returns : goal.returns
unfolding summary_of
returns c =
    rw (
      c.in_ok-push_line-4.ensures.text,
      c.in_ok-push_line-3.ensures.text,
      c.in_ok-push_line-2.ensures.text,
      c.in_ok-push_line.ensures.text,
      c.new-text.ensures.items,
      c.in_ok-xadds.ensures,
      c.sum_of_loads.ensures,
      c.from-size.ensures,
    )
    (four_texts
    (line_text (codes "pages" ∷ decimal (c.args.size + 9) ∷ []))
    (line_text (codes "operations" ∷ decimal (4 * (c.args.size + 2)) ∷ []))
    (line_text (codes "loads" ∷ decimal (sum_by loaded_value c.args.entries.now % 2 ^ 64) ∷ []))
    (line_text (codes "xadds" ∷ decimal (xadds c.args.job.now (reverse c.args.entries.now)) ∷ [])))
