use Rattle.std.proofs.Common.{List, reverse, take, length, sym, ap, ◌∙◌}
use Rattle.std.proofs.lemmas.List.{length-map}
use Rattle.sgx_rules.specs.declared.entries.Entry.{Entry}
use Rattle.run_replies.specs.inner.Gathered.{AreEndings, AreReplies}
use Rattle.run_replies.proofs.EntryLaws.{one_more}
use Rattle.run_replies.proofs.NumberLaws.{out_gathered}
use Rattle.run_replies.proofs.replies.print_out.Goals as goal

pub loop-entry-preserved : goal.loop-entry-preserved
loop-entry-preserved c =
    let now = c.args.entries.now in
    let i = c.loop-entry.entry-index in
    let was = c.loop-entry.invariant in
    let past : List Entry = reverse (take i now) in
    record {
      ended = one_more now i _ (λ past. AreEndings past c.note_ending.new.endings.items) c.loop-entry-test.true
          (c.note_ending.ensures.ended past was.ended);
      wide = c.note_ending.ensures.len ∙ was.wide;
      replied = one_more now i _ (λ past. AreReplies past c.note_reply.new.all.items) c.loop-entry-test.true
          (c.in_ok-note_reply.ensures.replies past was.replied);
      many = c.note_reply.ensures.len ∙ was.many;
    }

pub returns : goal.returns
returns c =
    out_gathered c.args.job.now c.args.entries.now c.loop-entry.entry-index c.loop-entry.endings.items c.loop-entry.replies.items
    c.new-text.result.items c.push_enclaves.new.onto.items c.push_cpus.new.onto.items c.deref.result.now c.deref-2.result.now
    (length c.enclaves-enclaves.result.now) c.loop-entry-test.false c.loop-entry.invariant c.deref.ensures.value c.deref-2.ensures.value
    c.new-text.ensures.items c.in_ok-push_enclaves.ensures
    (sym (length-map c.enclaves-enclaves.result.now _) ∙ ap length c.enclaves-enclaves.ensures.value) c.in_ok-push_cpus.ensures
