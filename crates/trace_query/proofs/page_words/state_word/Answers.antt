use Rattle.std.proofs.Common.{◌*◌, ◌^◌, ap, ◌∙◌, arith}
use Rattle.trace_query.proofs.FirstWords.{ossa_word, nssa_word, other_word}
use Rattle.trace_query.proofs.page_words.state_word.Goals as goal

pub returns-then-index-eq2 : goal.returns-then-index-eq2
returns-then-index-eq2 c =
    ap (λ n. n * 4096) c.from.ensures ∙ ossa_word c.args.ossa c.args.nssa c.args.index (omega (arith, c.if-index-eq2.true))

pub returns-then-index-eq3 : goal.returns-then-index-eq3
returns-then-index-eq3 c =
    ap (λ n. n * 2 ^ 32) c.from-then-index-eq3.ensures
    ∙ nssa_word c.args.ossa c.args.nssa c.args.index (omega (arith, c.if-index-eq3.true))

pub returns-else-index-eq3 : goal.returns-else-index-eq3
returns-else-index-eq3 c =
    other_word c.args.ossa c.args.nssa c.args.index (λ e. absurd (omega (arith, e, c.if-index-eq2.false)))
    (λ e. absurd (omega (arith, e, c.if-index-eq3.false)))
