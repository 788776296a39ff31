use Rattle.std.proofs.Common.{◌≡◌, false, reverse, ◌≤◌, ◌∷◌, sym, subst, ap, refl, arith}
use Rattle.driver_tables.specs.inner.Carried.{Carries}
use Rattle.driver_tables.specs.declared.driver.Driver.{Driver}
use Rattle.sgx_machine.specs.inner.Parts.{state_of}
use Rattle.due_notes.specs.inner.Arrays.{KeepsKeeper}
use Rattle.run_course.specs.declared.course.Course.{Course}
use Rattle.run_course.specs.inner.Courses.{past_of}
use Rattle.run_course.proofs.EndedLaws.{ends_told, none_fail}
use Rattle.run_course.proofs.InstructLaws.{none_started_of, acts, can_move, entered, lawful, notable, noted_by, plain_event}
use Rattle.run_course.proofs.KeepLaws.{first_behind, grown_by_one, take_at}
use Rattle.driver_rules.specs.inner.Stops.{started}
use Rattle.run_course.proofs.SpentLaws.{plain_draws, step_calm, used_calm}
use Rattle.run_course.proofs.RecordLaws.{newest, plain_is_none}
use Rattle.run_course.proofs.course.Course.instruct.Goals as goal

pub apply-requires-clause-can_apply : goal.apply-requires-clause-can_apply
apply-requires-clause-can_apply c = (lawful c.args.self.now c.args.actor c.args.action.now c.requires).can

pub apply-requires-clause-can_move : goal.apply-requires-clause-can_move
apply-requires-clause-can_move c = can_move c.args.self.now c.args.actor c.args.action.now c.requires

pub note_tables-requires : goal.note_tables-requires
note_tables-requires c =
    notable c.args.self.now c.apply.new.self c.args.actor c.args.action.now c.in_ok-entry.entry c.first_slot-first.result
    c.mode_of-before.result c.requires c.in_ok-entry.ensures.step c.first_slot-first.ensures c.mode_of-before.ensures

pub take_in-requires : goal.take_in-requires
take_in-requires c =
    let s = c.args.self.now in
    let told = c.in_ok-entry.ensures in
    let carries : Carries (state_of s.machine) c.in_ok-entry.entry (state_of c.apply.new.self) =
    record { shape = told.shape; fits = told.fits; arrays = told.arrays; history = told.history; making = c.apply.ensures.making } in
    let k = c.requires in
    let x : Course = record s { machine = c.apply.new.self; driver = c.note_tables.new.driver; entries = c.reserve.new.self } in
    let room = c.in_ok-reserve.ensures.ok in
    take_at s x c.mode_of-before.result c.in_ok-entry.entry k.told k.told
    (entered s x c.apply.new.self c.args.actor c.args.action.now c.in_ok-entry.entry c.first_slot-first.result c.mode_of-before.result k
    c.in_ok-entry.ensures.step carries c.apply.ensures.cpus c.first_slot-first.ensures c.mode_of-before.ensures c.note_tables.ensures
    refl refl refl
    refl c.reserve.ensures.items (omega (arith, room)))

pub returns-clause-more : goal.returns-clause-more
returns-clause-more c = λ can.
    (let s = c.args.self.now in
    let e = c.in_ok-entry.entry in
    let told = c.in_ok-entry.ensures in
    let carries : Carries (state_of s.machine) e (state_of c.apply.new.self) =
    record { shape = told.shape; fits = told.fits; arrays = told.arrays; history = told.history; making = c.apply.ensures.making } in
    let noted = noted_by s c.note_tables.new.driver c.apply.new.self c.args.actor c.args.action.now e c.first_slot-first.result
    c.mode_of-before.result can c.in_ok-entry.ensures.step c.first_slot-first.ensures c.mode_of-before.ensures c.note_tables.ensures in
    let both = acts s.machine c.apply.new.self c.args.actor c.args.action.now e c.in_ok-entry.ensures.step in
    let quiet = plain_event e.event c.args.action.now both.1 (lawful s c.args.actor c.args.action.now can).plain in
    let room = c.in_ok-reserve.ensures.ok in
    let x : Course = record s { machine = c.apply.new.self; driver = c.note_tables.new.driver; entries = c.reserve.new.self } in
    let enters = entered s x c.apply.new.self c.args.actor c.args.action.now e c.first_slot-first.result c.mode_of-before.result can
    c.in_ok-entry.ensures.step carries c.apply.ensures.cpus c.first_slot-first.ensures c.mode_of-before.ensures c.note_tables.ensures
    refl refl refl refl c.reserve.ensures.items (omega (arith, room)) in
    grown_by_one s x c.mode_of-before.result e can.told can.told c.take_in.new.self c.args.actor can.spare
    (record {
      enters = enters;
      book = c.take_in.ensures.book;
      stands = c.take_in.ensures.stands;
      job = ap (λ (x : Course). x.job) c.take_in.ensures.others;
      kept = c.take_in.ensures.kept;
      room = c.take_in.ensures.room;
    })
    (first_behind s can.told can.spare e can.keeps enters.made.next.age)
    (subst (λ n. n ≤ can.spare) (sym c.take_in.ensures.places) can.keeps.places)
    (subst (λ k. KeepsKeeper s.job k (e ∷ past_of s)) (sym (ap (λ (d : Driver). d.slots) c.take_in.ensures.driver)) noted.arrays)
    (ends_told (past_of s) e quiet can.keeps.ends)
    (record {
      none = none_fail (past_of s) e quiet can.keeps.clear.none;
      spent = (
        used_calm s.job (past_of s) e.event
            (step_calm (state_of s.machine) (state_of c.apply.new.self) c.args.actor c.args.action.now e
            (plain_draws c.args.action.now (lawful s c.args.actor c.args.action.now can).plain) c.in_ok-entry.ensures.step),
        can.keeps.clear.spent,
      );
    }) (omega (arith, room)) both.0
    c.take_in.ensures.kicks)

pub returns-clause-quiet : goal.returns-clause-quiet
returns-clause-quiet c = λ can.
    (let e = c.in_ok-entry.entry in
    let both = acts c.args.self.now.machine c.apply.new.self c.args.actor c.args.action.now e c.in_ok-entry.ensures.step in
    let none = plain_is_none e.event c.args.action.now both.1 (lawful c.args.self.now c.args.actor c.args.action.now can).plain in
    subst (λ h. started h c.args.actor ≡ false)
    (sym (newest c.reserve.new.self.items c.take_in.new.self.entries.items e c.take_in.ensures.kept))
    (none_started_of c.args.self.now (reverse c.reserve.new.self.items) e c.args.actor c.args.action.now can.due both.0 none))
