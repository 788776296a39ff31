use Rattle.std.proofs.Common.{arith, rules, false, refl, [], ◌≡◌, ◌≤◌, ◌<◌, ◌+◌, ◌-◌, ◌^◌}
use Rattle.std.proofs.Common.{ap, reverse, replicate, length, subst, sym, take, List, ◌∙◌}
use Rattle.std.proofs.lemmas.List.{length-map, take_all}
use Rattle.sgx_rules.specs.declared.entries.Entry.{Entry}
use Rattle.run_replies.proofs.EntryLaws.{one_more}
use Rattle.page_commands.specs.declared.exchanges.Progress.{Progress}
use Rattle.page_commands.specs.Summary.{xadds}
use Rattle.page_commands.specs.inner.Progress.{Counts}
use Rattle.page_commands.proofs.XaddLaws.{have_room, none_yet, one_entry}
use Rattle.page_commands.proofs.exchanges.number_of_xadds.Goals as goal
use Rattle.page_commands.proofs.exchanges.number_of_xadds.Goals.{then-note, else-note}
use Rattle.trace_tally.specs.Tally.{more_if}

pub note-requires-clause-few : goal.note-requires-clause-few
note-requires-clause-few c =
    let low : c.loop-entry.entry-index < 2 ^ 64 - 1 = search rules in
    have_room c.args.entries.now c.loop-entry.entry-index c.loop-entry.all.items low c.loop-entry.invariant.0.progress

pub loop-entry-init : goal.loop-entry-init
loop-entry-init c =
    let start : Progress = record { replied = 0; is_interrupted = false } in
    let many : length c.scripts.result.now ≡ length c.args.job.now.scripts =
    sym (length-map c.scripts.result.now _) ∙ ap length c.scripts.ensures in
    let items : c.in_ok-all.all.items ≡ replicate (length c.scripts.result.now) start =
    c.in_ok-all.ensures.items_if_clones_equal (λ y e. search rules) in (
      subst (λ xs. Counts c.args.job.now [] xs 0) (sym (items ∙ ap (λ n. replicate n start) many))
          (none_yet c.args.job.now start refl refl),
      omega arith,
    )

pub loop-entry-preserved : goal.loop-entry-preserved
loop-entry-preserved c =
    let now = c.args.entries.now in
    let i = c.loop-entry.entry-index in
    let past : List Entry = reverse (take i now) in
    let is : c.if-note.count ≡ more_if c.note.result c.loop-entry.count = (elim c.if-note.branch [
      | then-note w ↦ subst (λ b. c.if-note.count ≡ more_if b c.loop-entry.count) (sym w.if-note.true) w.count-is
      | else-note w ↦ subst (λ b. c.if-note.count ≡ more_if b c.loop-entry.count) (sym w.if-note.false) w.count-is
    ]) in
    let was = c.loop-entry.invariant in
    let found : c.if-note.count ≤ i + 1 = (elim c.if-note.branch [
      | then-note w ↦ omega (arith, w.count-is, was.1)
      | else-note w ↦ omega (arith, w.count-is, was.1)
    ]) in (
      one_more now i _ (λ past. Counts c.args.job.now past c.note.new.all.items c.if-note.count) c.loop-entry-test.true
          (one_entry c.args.job.now past _ c.loop-entry.all.items c.note.new.all.items c.loop-entry.count c.if-note.count
          c.note.result was.0
          (c.note.ensures.progress past was.0.progress) c.note.ensures.len (c.note.ensures.counts past was.0.progress) is),
      found,
    )

pub returns : goal.returns
returns c =
    c.loop-entry.invariant.0.count
    ∙ ap (λ (es : List Entry). xadds c.args.job.now (reverse es))
    (take_all c.loop-entry.entry-index c.args.entries.now c.loop-entry-test.false)
