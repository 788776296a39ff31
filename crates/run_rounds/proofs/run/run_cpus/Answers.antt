use Rattle.std.proofs.Common.{sym, ◌∙◌}
use Rattle.std.proofs.lemmas.Bool.{false≢true}
use Rattle.run_rounds.proofs.RestLaws.{rested_more}
use Rattle.run_rounds.proofs.run.run_cpus.Goals as goal
use Rattle.run_rounds.proofs.run.run_cpus.Goals.{then-not-branch, else-not-branch}

-- a processor with something to do makes the round one of many; one without leaves the book as it was
pub loop-number-preserved : goal.loop-number-preserved
loop-number-preserved g c = (
  record {
    job = c.in_ok-run_cpu.ensures.run.job ∙ c.loop-number.invariant.0.job;
    words = c.in_ok-run_cpu.ensures.run.words ∙ c.loop-number.invariant.0.words;
    out_of_memory = c.in_ok-run_cpu.ensures.run.out_of_memory;
    tells = c.in_ok-run_cpu.ensures.run.tells ∙ c.loop-number.invariant.0.tells;
  },
  elim c.if-not-branch.branch [
    | then-not-branch w ↦ λ done. absurd (false≢true (sym w.is_done-is ∙ done))
    | else-not-branch w ↦ λ done.
        rested_more c.args.book.now.book c.loop-number.book.book c.run_cpu.new.book.book c.loop-number.number
        (c.loop-number.invariant.1 (sym w.is_done-is ∙ done)) (c.in_ok-run_cpu.ensures.rests w.if-not-branch.false)
  ],
)
