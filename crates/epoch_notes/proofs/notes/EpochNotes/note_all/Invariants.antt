use Rattle.std.proofs.Common.{◌≡◌, ◌++◌, length, reverse, take}
use Rattle.epoch_notes.specs.inner.Notes.{CanNote, TellsEntries}
use Rattle.epoch_notes.proofs.notes.EpochNotes.note_all.Given as goal

-- the entries so far are taken in
abbrev pub invariant-loop-entry : goal.invariant-loop-entry
invariant-loop-entry l = record {
  words : l.self.words ≡ l.initial.self.words;
  cpus : length l.self.inside ≡ length l.initial.self.inside;
  tells : (can : CanNote l.initial.self (reverse l.entries))
      → TellsEntries can.first (reverse (take l.entry-index l.entries) ++ can.past) l.self;
}
