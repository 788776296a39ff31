use Rattle.std.proofs.Common.{◌≡◌, length, map, take}
use Rattle.job_lines.specs.Words.{words_of}
use Rattle.job_lines.proofs.words.read_words.Given as goal

-- the words so far
abbrev pub invariant-loop-word : goal.invariant-loop-word
invariant-loop-word l = map (λ word. word.now) l.words.items ≡ take (length l.yielded) (take 7 (words_of l.line))
