use Rattle.std.proofs.Common.{length, sym, ap, subst, ◌∙◌, arith}
use Rattle.run_calls.specs.inner.Comes.{bus_of}
use Rattle.run_course.specs.declared.course.Course.{Course}
use Rattle.run_course.specs.inner.Recording.{CanTake}
use Rattle.run_course.proofs.LoadEnds.{Takes, took_in}
use Rattle.run_course.proofs.LoadPair.{first_stands, pair_grows, pair_past, second_can, second_notes}
use Rattle.run_course.proofs.course.Course.take_refused.Goals as goal

pub take_in-requires : goal.take_in-requires
take_in-requires c = c.requires.take

pub mode-between-requires : goal.mode-between-requires
mode-between-requires c =
    let can = c.requires in
    let s = c.args.self.now in
    let took = took_in s c.take_in.new.self c.args.before c.args.entry.now
    (record {
      others = c.take_in.ensures.others;
      driver = c.take_in.ensures.driver;
      book = c.take_in.ensures.book;
      stands = c.take_in.ensures.stands;
      kept = c.take_in.ensures.kept;
      room = c.take_in.ensures.room;
      noted = c.take_in.ensures.noted;
      places = c.take_in.ensures.places;
      sealing = c.take_in.ensures.sealing;
      kicks = c.take_in.ensures.kicks;
    }) can.take in
    let stands = first_stands s c.args.cpu c.args.page c.args.before c.args.entry.now c.args.why can c.take_in.new.self took in
    let room = stands.book.agrees.cpus ∙ stands.book.agrees.shows.cpus in
    let scripts = ap (λ (x : Course). length x.job.scripts) c.take_in.ensures.others in
    let mine = can.mine in omega (arith, room, scripts, mine)

pub take_in-requires-2 : goal.take_in-requires-2
take_in-requires-2 c =
    let can = c.requires in
    let s = c.args.self.now in
    let took = took_in s c.take_in.new.self c.args.before c.args.entry.now
    (record {
      others = c.take_in.ensures.others;
      driver = c.take_in.ensures.driver;
      book = c.take_in.ensures.book;
      stands = c.take_in.ensures.stands;
      kept = c.take_in.ensures.kept;
      room = c.take_in.ensures.room;
      noted = c.take_in.ensures.noted;
      places = c.take_in.ensures.places;
      sealing = c.take_in.ensures.sealing;
      kicks = c.take_in.ensures.kicks;
    }) can.take in
    let notes = second_notes s c.args.cpu c.args.page c.args.before c.args.entry.now c.args.why can c.take_in.new.self took
    c.bus-told.result c.bus-told.ensures c.note.ensures.shape c.note.ensures.fits c.note.ensures.history in
    subst (CanTake c.take_in.new.self c.mode-between.result) (sym c.bus-told.ensures)
    (second_can s c.args.cpu c.args.page c.args.before c.args.entry.now c.args.why can c.take_in.new.self c.mode-between.result took notes
    c.mode-between.ensures)

pub returns-clause-past : goal.returns-clause-past
returns-clause-past c =
    let can = c.requires in
    let s = c.args.self.now in
    let b = bus_of c.args.cpu c.args.page c.args.why in
    let took = took_in s c.take_in.new.self c.args.before c.args.entry.now
    (record {
      others = c.take_in.ensures.others;
      driver = c.take_in.ensures.driver;
      book = c.take_in.ensures.book;
      stands = c.take_in.ensures.stands;
      kept = c.take_in.ensures.kept;
      room = c.take_in.ensures.room;
      noted = c.take_in.ensures.noted;
      places = c.take_in.ensures.places;
      sealing = c.take_in.ensures.sealing;
      kicks = c.take_in.ensures.kicks;
    }) can.take in
    let notes = second_notes s c.args.cpu c.args.page c.args.before c.args.entry.now c.args.why can c.take_in.new.self took
    c.bus-told.result c.bus-told.ensures c.note.ensures.shape c.note.ensures.fits c.note.ensures.history in
    let takes : Takes c.take_in.new.self c.take_in-2.new.self c.mode-between.result b =
    subst (Takes c.take_in.new.self c.take_in-2.new.self c.mode-between.result) c.bus-told.ensures
    (record {
      others = c.take_in-2.ensures.others;
      driver = c.take_in-2.ensures.driver;
      book = c.take_in-2.ensures.book;
      stands = c.take_in-2.ensures.stands;
      kept = c.take_in-2.ensures.kept;
      room = c.take_in-2.ensures.room;
      noted = c.take_in-2.ensures.noted;
      places = c.take_in-2.ensures.places;
      sealing = c.take_in-2.ensures.sealing;
      kicks = c.take_in-2.ensures.kicks;
    }) in
    let took' = took_in c.take_in.new.self c.take_in-2.new.self c.mode-between.result b takes
    (second_can s c.args.cpu c.args.page c.args.before c.args.entry.now c.args.why can c.take_in.new.self c.mode-between.result took notes
    c.mode-between.ensures) in
    pair_past s c.args.cpu c.args.page c.args.before c.args.entry.now c.args.why can c.take_in.new.self c.take_in-2.new.self
    c.mode-between.result took took'

pub returns-clause-grows : goal.returns-clause-grows
returns-clause-grows c = λ can.
    (let s = c.args.self.now in
    let b = bus_of c.args.cpu c.args.page c.args.why in
    let took = took_in s c.take_in.new.self c.args.before c.args.entry.now
    (record {
      others = c.take_in.ensures.others;
      driver = c.take_in.ensures.driver;
      book = c.take_in.ensures.book;
      stands = c.take_in.ensures.stands;
      kept = c.take_in.ensures.kept;
      room = c.take_in.ensures.room;
      noted = c.take_in.ensures.noted;
      places = c.take_in.ensures.places;
      sealing = c.take_in.ensures.sealing;
      kicks = c.take_in.ensures.kicks;
    }) can.take in
    let notes = second_notes s c.args.cpu c.args.page c.args.before c.args.entry.now c.args.why can c.take_in.new.self took
    c.bus-told.result c.bus-told.ensures c.note.ensures.shape c.note.ensures.fits c.note.ensures.history in
    let takes : Takes c.take_in.new.self c.take_in-2.new.self c.mode-between.result b =
    subst (Takes c.take_in.new.self c.take_in-2.new.self c.mode-between.result) c.bus-told.ensures
    (record {
      others = c.take_in-2.ensures.others;
      driver = c.take_in-2.ensures.driver;
      book = c.take_in-2.ensures.book;
      stands = c.take_in-2.ensures.stands;
      kept = c.take_in-2.ensures.kept;
      room = c.take_in-2.ensures.room;
      noted = c.take_in-2.ensures.noted;
      places = c.take_in-2.ensures.places;
      sealing = c.take_in-2.ensures.sealing;
      kicks = c.take_in-2.ensures.kicks;
    }) in
    let took' = took_in c.take_in.new.self c.take_in-2.new.self c.mode-between.result b takes
    (second_can s c.args.cpu c.args.page c.args.before c.args.entry.now c.args.why can c.take_in.new.self c.mode-between.result took notes
    c.mode-between.ensures) in
    pair_grows s c.args.cpu c.args.page c.args.before c.args.entry.now c.args.why can c.take_in.new.self c.take_in-2.new.self
    c.mode-between.result took took')
