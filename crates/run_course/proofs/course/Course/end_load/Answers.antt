use Rattle.std.proofs.Common.{refl, sym, ap, subst, ◌∙◌}
use Rattle.driver_faults.specs.declared.answers.Loaded.TheVariants as ends
use Rattle.due_notes.specs.inner.Plain.{is_reclaimer}
use Rattle.due_tables.specs.inner.Holding.{mode_of}
use Rattle.run_course.specs.declared.course.Course.{Course}
use Rattle.run_course.specs.inner.Courses.{past_of}
use Rattle.run_course.proofs.LoadCourse.{can_take, course_stands}
use Rattle.run_course.proofs.LoadEnds.{back_keeps, end_facts, grows_one, load_ends_here, load_ends_so, opened_can}
use Rattle.run_course.proofs.LoadEnds.{own_last, took_in}
use Rattle.run_course.proofs.LoadEnds.{took_past}
use Rattle.run_course.proofs.LoadPair.{back_done, end_last, end_refuses}
use Rattle.run_course.specs.inner.Turns.{IsOpened}
use Rattle.run_course.proofs.course.Course.end_load.Goals as goal

pub finish-requires : goal.finish-requires
finish-requires c =
    opened_can c.args.self.now c.requires.can.told c.requires.can.spare c.args.cpu c.args.page c.requires.can.keeps c.requires.cpu
    c.requires.loads

pub take_in-requires : goal.take_in-requires
take_in-requires c =
    let s = c.args.self.now in
    let k = c.requires.can in
    let x : Course = record s { driver = c.finish.new.driver; machine = c.finish.new.machine } in
    let f = end_facts s x.driver x.machine k.told k.spare c.args.cpu c.args.page (ends.Here c.in-Here.entry) k.keeps c.requires.cpu
    c.requires.going c.requires.loads c.in-Here.ensures.does c.in-Here.ensures.cpus in
    can_take x (past_of s) k.told k.told k.spare s.driver s.machine c.mode-before.result c.in-Here.entry
    (course_stands s s.entries x.driver x.machine k.told k.spare refl k.keeps) f.made
    (c.mode-before.ensures ∙ sym (ap (mode_of s.machine) f.by)) f.place (ap is_reclaimer f.by)

pub take_refused-requires : goal.take_refused-requires
take_refused-requires c =
    let s = c.args.self.now in
    let k = c.requires.can in
    let f = end_facts s c.finish.new.driver c.finish.new.machine k.told k.spare c.args.cpu c.args.page
    (ends.Bus c.in-Bus.entry c.in-Bus.why) k.keeps c.requires.cpu c.requires.going c.requires.loads c.in-Bus.ensures.does
    c.in-Bus.ensures.cpus in
    end_refuses s k.told k.spare c.args.cpu c.args.page c.finish.new.driver c.finish.new.machine c.mode-before.result c.in-Bus.entry
    c.in-Bus.why k.keeps c.requires.cpu c.requires.going f c.mode-before.ensures

pub returns-in-Here : goal.returns-in-Here
returns-in-Here c = λ can.
    (let s = c.args.self.now in
    let e = c.in-Here.entry in
    let new = c.take_in.new.self in
    let x : Course = record s { driver = c.finish.new.driver; machine = c.finish.new.machine } in
    let f = end_facts s x.driver x.machine can.told can.spare c.args.cpu c.args.page (ends.Here e) can.keeps c.requires.cpu
    c.requires.going c.requires.loads c.in-Here.ensures.does c.in-Here.ensures.cpus in
    let stands = course_stands s s.entries x.driver x.machine can.told can.spare refl can.keeps in
    let took = took_in x new c.mode-before.result e
    (record {
      others = c.take_in.ensures.others;
      driver = c.take_in.ensures.driver;
      book = c.take_in.ensures.book;
      stands = c.take_in.ensures.stands;
      kept = c.take_in.ensures.kept;
      room = c.take_in.ensures.room;
      noted = c.take_in.ensures.noted;
      places = c.take_in.ensures.places;
      sealing = c.take_in.ensures.sealing;
      kicks = c.take_in.ensures.kicks;
    })
    (can_take x (past_of s) can.told can.told can.spare s.driver s.machine c.mode-before.result e stands f.made
    (c.mode-before.ensures ∙ sym (ap (mode_of s.machine) f.by)) f.place (ap is_reclaimer f.by)) in
    let keeps = back_keeps x new (past_of s) can.told can.spare s.driver s.machine c.mode-before.result e c.args.cpu f.frame stands
    took f.by f.acts (back_done s can.told c.args.cpu c.args.page x.driver x.machine e f) f.low f.opened f.arrays
    can.keeps.clear can.keeps.room in
    let past = took_past x new (past_of s) can.told c.mode-before.result e refl took in (
      load_ends_here new (past_of s) e f.frame past f.acts (back_done s can.told c.args.cpu c.args.page x.driver x.machine e f),
      grows_one s new c.args.cpu e can.told can.spare f.by past took.job took.kicks keeps,
    ))

pub returns-in-Bus : goal.returns-in-Bus
returns-in-Bus c = λ can.
    (let s = c.args.self.now in
    let e = c.in-Bus.entry in
    let new = c.take_refused.new.self in
    let f = end_facts s c.finish.new.driver c.finish.new.machine can.told can.spare c.args.cpu c.args.page (ends.Bus e c.in-Bus.why)
    can.keeps c.requires.cpu c.requires.going c.requires.loads c.in-Bus.ensures.does c.in-Bus.ensures.cpus in
    let grows = c.take_refused.ensures.grows
    (end_refuses s can.told can.spare c.args.cpu c.args.page c.finish.new.driver c.finish.new.machine c.mode-before.result e
    c.in-Bus.why can.keeps c.requires.cpu c.requires.going f c.mode-before.ensures) in
    subst (λ turn. IsOpened s c.args.cpu turn new can.told can.spare) (sym c.take_refused.ensures.answer) (
      load_ends_so new (past_of s) e c.args.cpu c.args.page c.in-Bus.why f.frame c.take_refused.ensures.past f.acts
          (sym (own_last (past_of s) c.args.cpu e f.by)
          ∙ end_last s can.told c.args.cpu c.args.page c.finish.new.driver c.finish.new.machine e c.in-Bus.why f),
      record {
        entries = grows.entries;
        count = grows.count;
        actors = grows.actors;
        past = grows.past;
        job = grows.job;
        kicks = grows.kicks;
        keeps = grows.keeps;
      },
    ))
