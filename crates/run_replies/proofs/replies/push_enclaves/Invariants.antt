use Rattle.std.proofs.Common.{◌≡◌, ◌++◌}
use Rattle.std.specs.List.{flat_map}
use Rattle.script_rules.specs.Script.{numbers_from}
use Rattle.text_words.specs.Words.{line_text}
use Rattle.run_replies.specs.inner.Gathered.{line_at}
use Rattle.run_replies.proofs.replies.push_enclaves.Given as goal

abbrev pub invariant-loop-index : goal.invariant-loop-index
invariant-loop-index l = l.onto.items ≡ l.fn.onto.items ++ flat_map line_text (flat_map (line_at l.endings) (numbers_from 1 l.index))
