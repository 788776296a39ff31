use Rattle.std.proofs.Common.{◌∙◌}
use Rattle.epoch_notes.proofs.ManyLaws.{all_told, can_next, next_told}
use Rattle.epoch_notes.proofs.notes.EpochNotes.note_all.Goals as goal

pub note-requires-clause-can : goal.note-requires-clause-can
note-requires-clause-can c =
    can_next c.args.self.now c.loop-entry.self c.args.entries.now c.loop-entry.entry-index c.requires.can c.loop-entry-test.true
    c.loop-entry.invariant.words c.loop-entry.invariant.cpus (c.loop-entry.invariant.tells c.requires.can) _

pub loop-entry-preserved : goal.loop-entry-preserved
unfolding can_next
loop-entry-preserved c = record {
  words = c.note.ensures.words ∙ c.loop-entry.invariant.words;
  cpus = c.note.ensures.cpus ∙ c.loop-entry.invariant.cpus;
  tells = λ can.
      next_told c.note.new.self c.args.entries.now c.loop-entry.entry-index can.first can.past c.loop-entry-test.true _
      (c.note.ensures.tells (can_next c.args.self.now c.loop-entry.self c.args.entries.now c.loop-entry.entry-index can
      c.loop-entry-test.true c.loop-entry.invariant.words c.loop-entry.invariant.cpus (c.loop-entry.invariant.tells can) _));
}

pub returns-clause-tells : goal.returns-clause-tells
returns-clause-tells c = λ can.
    all_told c.loop-entry.self c.args.entries.now can.first can.past c.loop-entry.entry-index
    (c.loop-entry.invariant.tells can) c.loop-entry-test.false
