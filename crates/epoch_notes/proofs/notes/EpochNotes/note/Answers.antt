use Rattle.std.proofs.Common.{◌≡◌, ◌-◌, ◌∷◌, ap, subst, sym, ◌∙◌, refl, set}
use Rattle.sgx_rules.specs.declared.entries.Event.TheVariants.{Did}
use Rattle.sgx_rules.specs.Processors.{Enters, Keeps, Leaves, Seat}
use Rattle.epoch_words.specs.inner.Known.{Known}
use Rattle.epoch_words.specs.inner.Seen.{HasRoom, tracked}
use Rattle.epoch_words.specs.inner.Seen as words
use Rattle.epoch_notes.specs.inner.Notes.{NotesView, TellsEntries, after_enter, seen_of}
use Rattle.epoch_notes.proofs.EntryLaws.{IsQuiet, counted, entered_tells, enters_by, leaves_by, left_tells, may_begin, moves_calm}
use Rattle.epoch_notes.proofs.EntryLaws.{no_instruction, other_action, other_tells, quiet_tells, room, tracked_tells}
use Rattle.epoch_notes.proofs.notes.EpochNotes.note.Goals as goal

pub enter-requires-clause-room : goal.enter-requires-clause-room
enter-requires-clause-room c =
    let k = enters_by c.args.entry.now.event c.in-Did.action c.in-Did.answer c.in-Enter.enclave c.in-Did.is c.in-Enter.is in
    subst (λ enclave. HasRoom (seen_of c.args.self.now enclave)) k.2
    (room c.args.self.now c.args.entry.now c.requires.can c.in-Cpu-actor.cpu c.in-Cpu-actor.is k.0 k.1)

pub returns-in-Cpu-actor-clause-tells : goal.returns-in-Cpu-actor-clause-tells
returns-in-Cpu-actor-clause-tells c = λ can.
    let k = enters_by c.args.entry.now.event c.in-Did.action c.in-Did.answer c.in-Enter.enclave c.in-Did.is c.in-Enter.is in
    subst (TellsEntries can.first (c.args.entry.now ∷ can.past))
    (ap (after_enter c.args.self.now c.in-Cpu-actor.cpu.0) k.2 ∙ sym c.enter.ensures)
    (entered_tells c.args.self.now c.args.entry.now can c.in-Cpu-actor.cpu c.in-Cpu-actor.is k.0 k.1)

pub leave-requires-clause-inside : goal.leave-requires-clause-inside
leave-requires-clause-inside c =
    counted c.args.self.now c.args.entry.now c.requires.can c.in-Cpu.cpu c.in-Cpu.is
    (leaves_by c.args.entry.now.event c.in-Did.action c.in-Did.answer c.in-Did.is c.in-Exit.is)

pub returns-in-Cpu-clause-tells : goal.returns-in-Cpu-clause-tells
returns-in-Cpu-clause-tells c = λ can.
    subst (TellsEntries can.first (c.args.entry.now ∷ can.past)) (sym c.leave.ensures)
    (left_tells c.args.self.now c.args.entry.now can c.in-Cpu.cpu c.in-Cpu.is
    (leaves_by c.args.entry.now.event c.in-Did.action c.in-Did.answer c.in-Did.is c.in-Exit.is))

pub returns-in_default : goal.returns-in_default
returns-in_default c =
    let quiet = no_instruction c.args.entry.now.event c.in_default.not-Did in record {
      words = refl;
      cpus = refl;
      tells = λ can. quiet_tells c.args.self.now c.args.entry.now can quiet.keeps quiet.calm;
    }

pub returns-in_default-action : goal.returns-in_default-action
returns-in_default-action c =
    let quiet = subst IsQuiet (sym c.in-Did.is) (other_action c.in-Did.action c.in-Did.answer c.in_default-action.not-Enter
    c.in_default-action.not-Resume c.in_default-action.not-Exit c.in_default-action.not-Aex c.in_default-action.not-Track) in record {
      words = refl;
      cpus = refl;
      tells = λ can. quiet_tells c.args.self.now c.args.entry.now can quiet.keeps quiet.calm;
    }

differs : (seat : Seat) → Enters seat ≡ Keeps → ⊥
differs seat same = cc

differs_too : Leaves ≡ Keeps → ⊥
differs_too same = cc

pub returns-in_default-actor : goal.returns-in_default-actor
returns-in_default-actor c = record {
  words = refl;
  cpus = refl;
  tells = λ can.
      other_tells c.args.self.now c.args.entry.now can c.in_default-actor.not-Cpu
      (moves_calm c.args.entry.now.event Leaves
      (leaves_by c.args.entry.now.event c.in-Did.action c.in-Did.answer c.in-Did.is c.in-Exit.is) differs_too);
}

pub returns-in_default-actor-2 : goal.returns-in_default-actor-2
returns-in_default-actor-2 c =
    let k = enters_by c.args.entry.now.event c.in-Did.action c.in-Did.answer c.in-Enter.enclave c.in-Did.is c.in-Enter.is in record {
      words = refl;
      cpus = refl;
      tells = λ can.
          other_tells c.args.self.now c.args.entry.now can c.in_default-actor-2.not-Cpu
          (moves_calm c.args.entry.now.event (Enters k.0) k.1 (differs k.0));
    }

pub tracked-requires-clause-allowed : goal.tracked-requires-clause-allowed
tracked-requires-clause-allowed c =
    subst (λ (v : NotesView). words.CanTrack (seen_of v c.in-Track.enclave)) (sym c.self.view_is)
    (may_begin c.args.self.now c.args.entry.now c.requires.can c.in-Track.enclave c.in-Did.answer
    (c.in-Did.is ∙ ap (λ a. Did a c.in-Did.answer) c.in-Track.is))

pub returns-in-Track-clause-tells : goal.returns-in-Track-clause-tells
returns-in-Track-clause-tells c = λ can.
    let enclave = c.in-Track.enclave in
    subst (TellsEntries can.first (c.args.entry.now ∷ can.past))
    (sym
    (ap (λ (k : Known). record { words = k.words; seen = k.seen; inside = c.self.inside.inside.items }) c.tracked.ensures
    ∙ ap (λ (v : NotesView). record v { seen = set v.seen (enclave - 1) (tracked (seen_of v enclave)) }) c.self.view_is))
    (tracked_tells c.args.self.now c.args.entry.now can enclave c.in-Did.answer
    (c.in-Did.is ∙ ap (λ a. Did a c.in-Did.answer) c.in-Track.is))
