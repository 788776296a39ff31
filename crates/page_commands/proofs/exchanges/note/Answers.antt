use Rattle.std.proofs.Common.{◌≡◌, ◌∷◌, ap, arith, get_or, refl, subst, sym, ◌∙◌, ◌<◌, length}
use Rattle.script_rules.specs.Script.{replied, script_of}
use Rattle.page_commands.specs.Summary.{xadds_in}
use Rattle.page_commands.specs.inner.Progress.{IsProgress}
use Rattle.page_commands.proofs.XaddLaws.{by_itself, xadds_more, xadds_still}
use Rattle.page_commands.proofs.exchanges.note.Goals as goal
use Rattle.trace_tally.specs.Tally.{more_if}

pub returns-then-from-len-clause-counts : goal.returns-then-from-len-clause-counts
returns-then-from-len-clause-counts c = λ past were.
    let e = c.args.entry.now in
    let p = c.in-Cpu.cpu.0 in
    let all = c.args.all.now.items in
    let own = c.index_mut.result.now in
    let low : p < length all = omega (arith, c.if-from-len.true, c.from.ensures, c.len.ensures) in
    let is : own ≡ get_or all p own =
    subst (λ n. own ≡ get_or all n own) c.from-then-from-len-2.ensures c.index_mut.ensures.value in
    let was : IsProgress past p own = subst (IsProgress past p) (sym is) (were p own low) in
    let counts = c.note.ensures.counts past p e refl (by_itself e c.in-Cpu.cpu c.in-Cpu.is) was in
    xadds_more c.args.job.now past e c.in-Cpu.cpu c.note.result c.in-Cpu.is (omega (arith, low, c.requires.many))
    (subst (λ script. xadds_in script (replied (e ∷ past) p) ≡ more_if c.note.result (xadds_in script (replied past p)))
    (c.script_of-script.ensures ∙ ap (script_of c.args.job.now) c.from-then-from-len.ensures)
    counts)

pub returns-else-from-len-clause-counts : goal.returns-else-from-len-clause-counts
returns-else-from-len-clause-counts c = λ past were.
    xadds_still c.args.job.now past c.args.entry.now c.in-Cpu.cpu c.in-Cpu.is
    (omega (arith, c.if-from-len.false, c.from.ensures, c.len.ensures, c.requires.many))
