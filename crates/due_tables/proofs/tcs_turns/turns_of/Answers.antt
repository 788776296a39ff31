use Rattle.std.proofs.Common.{false, ◌≡◌, None, get_or, length, ap, ◌∙◌, arith}
use Rattle.job_grammar.specs.declared.jobs.PageLine.TheVariants as lines
use Rattle.driver_tables.proofs.BuildLaws.{each_end}
use Rattle.due_tables.proofs.PlaceLaws.{taken_more}
use Rattle.due_tables.proofs.TableLaws.{written_whole}
use Rattle.due_tables.proofs.tcs_turns.turns_of.Goals as goal

pub add_line-requires : goal.add_line-requires
add_line-requires c =
    let end = each_end c.args.lines.now c.loop-line.line-index (lines.Tcs 0 0 0 false) c.loop-line-test.true in
    omega (arith, end, c.loop-line.invariant.sized, ap length c.deref_mut.ensures.value)

pub loop-line-preserved : goal.loop-line-preserved
loop-line-preserved c =
    let same : length c.add_line.new.turns ≡ length c.loop-line.turns.items =
    omega (arith, c.add_line.auto.turns, ap length c.deref_mut.ensures.value) in
    let whole = written_whole c.add_line.new.turns c.loop-line.turns.items c.loop-line.turns.len same c.loop-line.turns.ok.0 in
    record {
      sized = ap length whole ∙ same ∙ c.loop-line.invariant.sized;
      taken = λ n. ap (λ xs. get_or xs n None) whole
          ∙ taken_more c.args.lines.now c.loop-line.line-index
          (lines.Tcs 0 0 0 false) c.deref_mut.result.now c.add_line.new.turns c.loop-line-test.true
          c.add_line.ensures (λ k. ap (λ xs. get_or xs k None) c.deref_mut.ensures.value ∙ c.loop-line.invariant.taken k) n;
    }
