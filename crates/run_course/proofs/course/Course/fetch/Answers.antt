use Rattle.std.proofs.Common.{◌≡◌, false, reverse, ◌∷◌, ◌++◌, [], inl, refl, ap, sym, subst, ◌∙◌, arith}
use Rattle.driver_faults.specs.declared.answers.FaultAnswer.TheVariants as answers
use Rattle.run_course.specs.inner.Courses.{Grows, KeepsCourse}
use Rattle.run_course.specs.inner.Refusing.{CanRefuse}
use Rattle.driver_faults.specs.inner.Resolving.{asked_in}
use Rattle.sgx_rules.specs.declared.entries.BusWhy.TheVariants as reasons
use Rattle.run_course.proofs.LoadFetch.{again_keeps, again_same, again_waits_by, fetched_of, here_keeps, here_same, here_waits_by}
use Rattle.run_course.proofs.LoadFetch.{again_told, again_unlost, fetch_tells, here_told, here_unlost, mid}
use Rattle.run_course.proofs.LoadFetch.{slot_grows, slot_refuses, start_can, start_turns, told_runs, told_takes, told_turns, two_apart}
use Rattle.run_course.proofs.RecordLaws.{longer_apart, newest, none_started_by}
use Rattle.run_calls.specs.inner.Comes.{bus_of}
use Rattle.driver_rules.specs.inner.Stops.{started}
use Rattle.sgx_types.specs.declared.names.Actor.TheVariants as actors
use Rattle.sgx_rules.specs.declared.entries.Entry.{Entry}
use Rattle.driver_rules.specs.declared.waits.Why.TheVariants as waits
use Rattle.run_course.specs.inner.Courses.{past_of}
use Rattle.run_course.specs.inner.Turns.{IsCpuTurn, IsNotLost, IsWaitBy, RunsBy, RunsMany}
use Rattle.run_course.proofs.KeepLaws.{same_self}
use Rattle.run_course.proofs.LoadCourse.{absent_waits, placed_there}
use Rattle.driver_faults.proofs.AskLaws.{can_resolve}
use Rattle.script_rules.specs.Machines.{machine_of}
use Rattle.run_course.proofs.SameLaws.{same_keeps}
use Rattle.run_course.proofs.course.Course.fetch.Goals as goal

pub returns-in_err-reserve-clause-keeps : goal.returns-in_err-reserve-clause-keeps
returns-in_err-reserve-clause-keeps g c =
    same_keeps c.args.self.now (record c.args.self.now { entries = c.reserve.new.self }) (g.S.Backing.told c.args.store.now)
    (g.S.Backing.spare c.args.store.now)
    (record {
      job = refl;
      machine = refl;
      driver = refl;
      turns = refl;
      pass = refl;
      entries = c.reserve.ensures.items;
      room = c.reserve.ensures.capacity;
    }) c.requires.keeps

pub returns-in_err-resolve-clause-keeps : goal.returns-in_err-resolve-clause-keeps
returns-in_err-resolve-clause-keeps g c =
    let s = c.args.self.now in
    same_keeps s (mid s c.reserve.new.self c.resolve.new.driver c.resolve.new.machine) (g.S.Backing.told c.resolve.new.store)
    (g.S.Backing.spare c.resolve.new.store)
    (record {
      job = refl;
      machine = c.in_err-resolve.ensures.machine;
      driver = c.in_err-resolve.ensures.driver;
      turns = refl;
      pass = refl;
      entries = c.reserve.ensures.items;
      room = c.reserve.ensures.capacity;
    })
    (subst (λ b. KeepsCourse s (g.S.Backing.told b) (g.S.Backing.spare b)) (sym c.in_err-resolve.ensures.store) c.requires.keeps)

pub take_in-requires : goal.take_in-requires
take_in-requires g c =
    let s = c.args.self.now in
    let room = c.in_ok-reserve.ensures.ok in
    let f = fetched_of s c.reserve.new.self c.resolve.new.driver c.resolve.new.machine (g.S.Backing.told c.args.store.now)
    (g.S.Backing.told c.resolve.new.store) (g.S.Backing.spare c.args.store.now) c.args.cpu c.args.page c.mode-before.result
    c.in_ok-resolve.field-0 (answers.Bus c.in-Bus.why) c.requires.keeps c.requires.cpu c.requires.due
    (sym c.has_place.ensures ∙ c.if-not-has_place.false) c.mode-before.ensures c.reserve.ensures.items (omega (arith, room))
    c.in_ok-resolve.ensures.does c.resolve.ensures.cpus c.in-Bus.is in
    told_takes c.in-Bus.why f c.bus-entry.result
    (c.bus-entry.ensures ∙ ap (λ asked. bus_of c.args.cpu asked c.in-Bus.why) c.asked-asked.ensures)
    c.note.ensures.shape c.note.ensures.fits c.note.ensures.history

pub take_in-requires-in-Started : goal.take_in-requires-in-Started
take_in-requires-in-Started g c =
    let s = c.args.self.now in
    let room = c.in_ok-reserve.ensures.ok in
    let f = fetched_of s c.reserve.new.self c.resolve.new.driver c.resolve.new.machine (g.S.Backing.told c.args.store.now)
    (g.S.Backing.told c.resolve.new.store) (g.S.Backing.spare c.args.store.now) c.args.cpu c.args.page c.mode-before.result
    c.in_ok-resolve.field-0 (answers.Started c.in-Started.entry c.in-Started.work) c.requires.keeps c.requires.cpu c.requires.due
    (sym c.has_place.ensures ∙ c.if-not-has_place.false) c.mode-before.ensures c.reserve.ensures.items (omega (arith, room))
    c.in_ok-resolve.ensures.does c.resolve.ensures.cpus c.in-Started.is in
    start_can c.in-Started.entry c.in-Started.work f

pub returns-in-Here-clause-turn : goal.returns-in-Here-clause-turn
returns-in-Here-clause-turn g c =
    let s = c.args.self.now in
    let room = c.in_ok-reserve.ensures.ok in
    let f = fetched_of s c.reserve.new.self c.resolve.new.driver c.resolve.new.machine (g.S.Backing.told c.args.store.now)
    (g.S.Backing.told c.resolve.new.store) (g.S.Backing.spare c.args.store.now) c.args.cpu c.args.page c.mode-before.result
    c.in_ok-resolve.field-0 answers.Here c.requires.keeps c.requires.cpu c.requires.due
    (sym c.has_place.ensures ∙ c.if-not-has_place.false) c.mode-before.ensures c.reserve.ensures.items (omega (arith, room))
    c.in_ok-resolve.ensures.does c.resolve.ensures.cpus c.in-Here.is in
    (here_waits_by f, here_unlost f, here_same f c.reserve.ensures.capacity)

pub returns-in-Here-clause-keeps : goal.returns-in-Here-clause-keeps
returns-in-Here-clause-keeps g c =
    let s = c.args.self.now in
    let room = c.in_ok-reserve.ensures.ok in
    let f = fetched_of s c.reserve.new.self c.resolve.new.driver c.resolve.new.machine (g.S.Backing.told c.args.store.now)
    (g.S.Backing.told c.resolve.new.store) (g.S.Backing.spare c.args.store.now) c.args.cpu c.args.page c.mode-before.result
    c.in_ok-resolve.field-0 answers.Here c.requires.keeps c.requires.cpu c.requires.due
    (sym c.has_place.ensures ∙ c.if-not-has_place.false) c.mode-before.ensures c.reserve.ensures.items (omega (arith, room))
    c.in_ok-resolve.ensures.does c.resolve.ensures.cpus c.in-Here.is in
    here_keeps (g.S.Backing.spare c.resolve.new.store) f c.reserve.ensures.capacity c.resolve.ensures.spare

pub returns-in-Again-clause-turn : goal.returns-in-Again-clause-turn
returns-in-Again-clause-turn g c =
    let s = c.args.self.now in
    let room = c.in_ok-reserve.ensures.ok in
    let f = fetched_of s c.reserve.new.self c.resolve.new.driver c.resolve.new.machine (g.S.Backing.told c.args.store.now)
    (g.S.Backing.told c.resolve.new.store) (g.S.Backing.spare c.args.store.now) c.args.cpu c.args.page c.mode-before.result
    c.in_ok-resolve.field-0 (answers.Again c.in-Again.why) c.requires.keeps c.requires.cpu c.requires.due
    (sym c.has_place.ensures ∙ c.if-not-has_place.false) c.mode-before.ensures c.reserve.ensures.items (omega (arith, room))
    c.in_ok-resolve.ensures.does c.resolve.ensures.cpus c.in-Again.is in
    (again_waits_by c.in-Again.why f, again_unlost c.in-Again.why f, again_same c.in-Again.why f c.reserve.ensures.capacity)

pub returns-in-Again-clause-keeps : goal.returns-in-Again-clause-keeps
returns-in-Again-clause-keeps g c =
    let s = c.args.self.now in
    let room = c.in_ok-reserve.ensures.ok in
    let f = fetched_of s c.reserve.new.self c.resolve.new.driver c.resolve.new.machine (g.S.Backing.told c.args.store.now)
    (g.S.Backing.told c.resolve.new.store) (g.S.Backing.spare c.args.store.now) c.args.cpu c.args.page c.mode-before.result
    c.in_ok-resolve.field-0 (answers.Again c.in-Again.why) c.requires.keeps c.requires.cpu c.requires.due
    (sym c.has_place.ensures ∙ c.if-not-has_place.false) c.mode-before.ensures c.reserve.ensures.items (omega (arith, room))
    c.in_ok-resolve.ensures.does c.resolve.ensures.cpus c.in-Again.is in
    again_keeps c.in-Again.why (g.S.Backing.spare c.resolve.new.store) f c.reserve.ensures.capacity c.resolve.ensures.spare

pub returns-in-Bus-clause-turn : goal.returns-in-Bus-clause-turn
returns-in-Bus-clause-turn g c =
    let s = c.args.self.now in
    let room = c.in_ok-reserve.ensures.ok in
    let f = fetched_of s c.reserve.new.self c.resolve.new.driver c.resolve.new.machine (g.S.Backing.told c.args.store.now)
    (g.S.Backing.told c.resolve.new.store) (g.S.Backing.spare c.args.store.now) c.args.cpu c.args.page c.mode-before.result
    c.in_ok-resolve.field-0 (answers.Bus c.in-Bus.why) c.requires.keeps c.requires.cpu c.requires.due
    (sym c.has_place.ensures ∙ c.if-not-has_place.false) c.mode-before.ensures c.reserve.ensures.items (omega (arith, room))
    c.in_ok-resolve.ensures.does c.resolve.ensures.cpus c.in-Bus.is in
    let told : c.bus-entry.result ≡ bus_of c.args.cpu (asked_in s.driver c.args.page) c.in-Bus.why =
    c.bus-entry.ensures ∙ ap (λ asked. bus_of c.args.cpu asked c.in-Bus.why) c.asked-asked.ensures in (
      subst (RunsMany 1)
          (sym (newest c.reserve.new.self.items c.take_in.new.self.entries.items c.bus-entry.result c.take_in.ensures.kept))
          (subst (λ (e : Entry). RunsBy 1 e.event) (sym told) (told_runs c.in-Bus.why f)),
      subst (λ h. started h (actors.Cpu c.args.cpu) ≡ false)
          (sym (newest c.reserve.new.self.items c.take_in.new.self.entries.items c.bus-entry.result c.take_in.ensures.kept))
          (subst (λ (e : Entry). started (e ∷ reverse c.reserve.new.self.items) (actors.Cpu c.args.cpu) ≡ false) (sym c.bus-entry.ensures)
          (none_started_by (reverse c.reserve.new.self.items) (bus_of c.args.cpu c.asked-asked.result c.in-Bus.why) c.args.cpu refl refl)),
      told_turns c.in-Bus.why c.take_in.new.self (g.S.Backing.spare c.resolve.new.store) f c.bus-entry.result told
          c.note.ensures.shape c.note.ensures.fits c.note.ensures.history
          (record {
            others = c.take_in.ensures.others;
            driver = c.take_in.ensures.driver;
            book = c.take_in.ensures.book;
            stands = c.take_in.ensures.stands;
            kept = c.take_in.ensures.kept;
            room = c.take_in.ensures.room;
            noted = c.take_in.ensures.noted;
            places = c.take_in.ensures.places;
            sealing = c.take_in.ensures.sealing;
            kicks = c.take_in.ensures.kicks;
          }) c.resolve.ensures.spare,
    )

pub returns-in-Bus-clause-keeps : goal.returns-in-Bus-clause-keeps
returns-in-Bus-clause-keeps g c =
    let s = c.args.self.now in
    let room = c.in_ok-reserve.ensures.ok in
    let f = fetched_of s c.reserve.new.self c.resolve.new.driver c.resolve.new.machine (g.S.Backing.told c.args.store.now)
    (g.S.Backing.told c.resolve.new.store) (g.S.Backing.spare c.args.store.now) c.args.cpu c.args.page c.mode-before.result
    c.in_ok-resolve.field-0 (answers.Bus c.in-Bus.why) c.requires.keeps c.requires.cpu c.requires.due
    (sym c.has_place.ensures ∙ c.if-not-has_place.false) c.mode-before.ensures c.reserve.ensures.items (omega (arith, room))
    c.in_ok-resolve.ensures.does c.resolve.ensures.cpus c.in-Bus.is in
    (told_turns c.in-Bus.why c.take_in.new.self (g.S.Backing.spare c.resolve.new.store) f c.bus-entry.result
    (c.bus-entry.ensures ∙ ap (λ asked. bus_of c.args.cpu asked c.in-Bus.why) c.asked-asked.ensures)
    c.note.ensures.shape c.note.ensures.fits c.note.ensures.history
    (record {
      others = c.take_in.ensures.others;
      driver = c.take_in.ensures.driver;
      book = c.take_in.ensures.book;
      stands = c.take_in.ensures.stands;
      kept = c.take_in.ensures.kept;
      room = c.take_in.ensures.room;
      noted = c.take_in.ensures.noted;
      places = c.take_in.ensures.places;
      sealing = c.take_in.ensures.sealing;
      kicks = c.take_in.ensures.kicks;
    }) c.resolve.ensures.spare).keeps

pub returns-in-Started-clause-turn : goal.returns-in-Started-clause-turn
returns-in-Started-clause-turn g c =
    let s = c.args.self.now in
    let room = c.in_ok-reserve.ensures.ok in
    let f = fetched_of s c.reserve.new.self c.resolve.new.driver c.resolve.new.machine (g.S.Backing.told c.args.store.now)
    (g.S.Backing.told c.resolve.new.store) (g.S.Backing.spare c.args.store.now) c.args.cpu c.args.page c.mode-before.result
    c.in_ok-resolve.field-0 (answers.Started c.in-Started.entry c.in-Started.work) c.requires.keeps c.requires.cpu c.requires.due
    (sym c.has_place.ensures ∙ c.if-not-has_place.false) c.mode-before.ensures c.reserve.ensures.items (omega (arith, room))
    c.in_ok-resolve.ensures.does c.resolve.ensures.cpus c.in-Started.is in
    let both = start_turns c.in-Started.entry c.in-Started.work c.take_in-in-Started.new.self (g.S.Backing.spare c.resolve.new.store) f
    (record {
      others = c.take_in-in-Started.ensures.others;
      driver = c.take_in-in-Started.ensures.driver;
      book = c.take_in-in-Started.ensures.book;
      stands = c.take_in-in-Started.ensures.stands;
      kept = c.take_in-in-Started.ensures.kept;
      room = c.take_in-in-Started.ensures.room;
      noted = c.take_in-in-Started.ensures.noted;
      places = c.take_in-in-Started.ensures.places;
      sealing = c.take_in-in-Started.ensures.sealing;
      kicks = c.take_in-in-Started.ensures.kicks;
    }) c.resolve.ensures.spare in
    (both.0, inl both.1)

pub returns-in-Started-clause-keeps : goal.returns-in-Started-clause-keeps
returns-in-Started-clause-keeps g c =
    let s = c.args.self.now in
    let room = c.in_ok-reserve.ensures.ok in
    let f = fetched_of s c.reserve.new.self c.resolve.new.driver c.resolve.new.machine (g.S.Backing.told c.args.store.now)
    (g.S.Backing.told c.resolve.new.store) (g.S.Backing.spare c.args.store.now) c.args.cpu c.args.page c.mode-before.result
    c.in_ok-resolve.field-0 (answers.Started c.in-Started.entry c.in-Started.work) c.requires.keeps c.requires.cpu c.requires.due
    (sym c.has_place.ensures ∙ c.if-not-has_place.false) c.mode-before.ensures c.reserve.ensures.items (omega (arith, room))
    c.in_ok-resolve.ensures.does c.resolve.ensures.cpus c.in-Started.is in
    (start_turns c.in-Started.entry c.in-Started.work c.take_in-in-Started.new.self (g.S.Backing.spare c.resolve.new.store) f
    (record {
      others = c.take_in-in-Started.ensures.others;
      driver = c.take_in-in-Started.ensures.driver;
      book = c.take_in-in-Started.ensures.book;
      stands = c.take_in-in-Started.ensures.stands;
      kept = c.take_in-in-Started.ensures.kept;
      room = c.take_in-in-Started.ensures.room;
      noted = c.take_in-in-Started.ensures.noted;
      places = c.take_in-in-Started.ensures.places;
      sealing = c.take_in-in-Started.ensures.sealing;
      kicks = c.take_in-in-Started.ensures.kicks;
    }) c.resolve.ensures.spare).1.keeps

pub returns-in-Started-clause-calm : goal.returns-in-Started-clause-calm
returns-in-Started-clause-calm g c = λ same.
    absurd (longer_apart c.args.self.now.entries.items c.take_in-in-Started.new.self.entries.items c.in-Started.entry
    (c.take_in-in-Started.ensures.kept ∙ ap (λ items. items ++ c.in-Started.entry ∷ []) c.reserve.ensures.items) same)

pub returns-then-not-has_place-clause-turn : goal.returns-then-not-has_place-clause-turn
returns-then-not-has_place-clause-turn g c =
    let s = c.args.self.now in
    let due = absent_waits s.job s.driver (past_of s) s.turns c.args.page _ c.requires.keeps.book.agrees.shows
    c.requires.keeps.book.turns (sym c.has_place.ensures ∙ c.if-not-has_place.true) c.requires.due in (
      subst (λ d. IsWaitBy d (waits.Busy c.args.page)) (sym due) refl,
      subst (IsNotLost (g.S.Backing.told c.args.store.now)) (sym due) tt,
      same_self s,
    )

pub returns-in-Bus-clause-calm : goal.returns-in-Bus-clause-calm
returns-in-Bus-clause-calm g c = λ same.
    absurd (longer_apart c.args.self.now.entries.items c.take_in.new.self.entries.items c.bus-entry.result
    (c.take_in.ensures.kept ∙ ap (λ items. items ++ c.bus-entry.result ∷ []) c.reserve.ensures.items) same)

pub take_refused-requires : goal.take_refused-requires
take_refused-requires g c =
    let s = c.args.self.now in
    let room = c.in_ok-reserve.ensures.ok in
    let f = fetched_of s c.reserve.new.self c.resolve.new.driver c.resolve.new.machine (g.S.Backing.told c.args.store.now)
    (g.S.Backing.told c.resolve.new.store) (g.S.Backing.spare c.args.store.now) c.args.cpu c.args.page c.mode-before.result
    c.in_ok-resolve.field-0 (answers.Slot c.in-Slot.entry) c.requires.keeps c.requires.cpu c.requires.due
    (sym c.has_place.ensures ∙ c.if-not-has_place.false) c.mode-before.ensures c.reserve.ensures.items (omega (arith, room))
    c.in_ok-resolve.ensures.does c.resolve.ensures.cpus c.in-Slot.is in
    subst (λ asked. CanRefuse (mid s c.reserve.new.self c.resolve.new.driver c.resolve.new.machine) c.args.cpu asked c.mode-before.result
    c.in-Slot.entry reasons.Slot) (sym c.asked-asked.ensures) (slot_refuses c.in-Slot.entry f)

pub returns-in-Slot-clause-turn : goal.returns-in-Slot-clause-turn
returns-in-Slot-clause-turn g c =
    let s = c.args.self.now in
    let room = c.in_ok-reserve.ensures.ok in
    let f = fetched_of s c.reserve.new.self c.resolve.new.driver c.resolve.new.machine (g.S.Backing.told c.args.store.now)
    (g.S.Backing.told c.resolve.new.store) (g.S.Backing.spare c.args.store.now) c.args.cpu c.args.page c.mode-before.result
    c.in_ok-resolve.field-0 (answers.Slot c.in-Slot.entry) c.requires.keeps c.requires.cpu c.requires.due
    (sym c.has_place.ensures ∙ c.if-not-has_place.false) c.mode-before.ensures c.reserve.ensures.items (omega (arith, room))
    c.in_ok-resolve.ensures.does c.resolve.ensures.cpus c.in-Slot.is in
    let x = mid s c.reserve.new.self c.resolve.new.driver c.resolve.new.machine in
    let grows = slot_grows c.in-Slot.entry c.take_refused.new.self (g.S.Backing.spare c.resolve.new.store) f
    (subst (λ asked. (can : CanRefuse x c.args.cpu asked c.mode-before.result c.in-Slot.entry reasons.Slot)
    → Grows x (actors.Cpu c.args.cpu) 2 c.take_refused.new.self can.take.can.longer can.spare) c.asked-asked.ensures
    c.take_refused.ensures.grows (slot_refuses c.in-Slot.entry f)) c.resolve.ensures.spare in
    subst (λ turn. IsCpuTurn s c.args.cpu turn c.take_refused.new.self (g.S.Backing.told c.resolve.new.store)
    (g.S.Backing.spare c.resolve.new.store)) (sym c.take_refused.ensures.answer) (
      subst (RunsMany 2) (sym c.take_refused.ensures.past) refl,
      subst (λ h. started h (actors.Cpu c.args.cpu) ≡ false) (sym c.take_refused.ensures.past)
          (none_started_by (c.in-Slot.entry ∷ reverse c.reserve.new.self.items)
          (bus_of c.args.cpu c.asked-asked.result reasons.Slot) c.args.cpu refl refl),
      grows,
    )

pub returns-in-Slot-clause-keeps : goal.returns-in-Slot-clause-keeps
returns-in-Slot-clause-keeps g c =
    let s = c.args.self.now in
    let room = c.in_ok-reserve.ensures.ok in
    let f = fetched_of s c.reserve.new.self c.resolve.new.driver c.resolve.new.machine (g.S.Backing.told c.args.store.now)
    (g.S.Backing.told c.resolve.new.store) (g.S.Backing.spare c.args.store.now) c.args.cpu c.args.page c.mode-before.result
    c.in_ok-resolve.field-0 (answers.Slot c.in-Slot.entry) c.requires.keeps c.requires.cpu c.requires.due
    (sym c.has_place.ensures ∙ c.if-not-has_place.false) c.mode-before.ensures c.reserve.ensures.items (omega (arith, room))
    c.in_ok-resolve.ensures.does c.resolve.ensures.cpus c.in-Slot.is in
    let x = mid s c.reserve.new.self c.resolve.new.driver c.resolve.new.machine in
    let grows = slot_grows c.in-Slot.entry c.take_refused.new.self (g.S.Backing.spare c.resolve.new.store) f
    (subst (λ asked. (can : CanRefuse x c.args.cpu asked c.mode-before.result c.in-Slot.entry reasons.Slot)
    → Grows x (actors.Cpu c.args.cpu) 2 c.take_refused.new.self can.take.can.longer can.spare) c.asked-asked.ensures
    c.take_refused.ensures.grows (slot_refuses c.in-Slot.entry f)) c.resolve.ensures.spare in
    grows.keeps

pub returns-in-Slot-clause-calm : goal.returns-in-Slot-clause-calm
returns-in-Slot-clause-calm g c = λ same.
    absurd (two_apart (past_of c.args.self.now) (bus_of c.args.cpu c.asked-asked.result reasons.Slot) c.in-Slot.entry
    (sym same ∙ c.take_refused.ensures.past
    ∙ ap (λ items. bus_of c.args.cpu c.asked-asked.result reasons.Slot ∷ c.in-Slot.entry ∷ reverse items) c.reserve.ensures.items))

pub asked-asked-requires : goal.asked-asked-requires
asked-asked-requires g c =
    let s = c.args.self.now in
    let k = c.requires.keeps.book in
    (can_resolve (machine_of s.job) s.job (past_of s) s.driver s.machine k.agrees c.args.page
    (placed_there s.job s.driver (past_of s) s.turns c.args.page k.agrees.shows k.turns
    (sym c.has_place.ensures ∙ c.if-not-has_place.false))).ask

pub resolve-requires-clause-can : goal.resolve-requires-clause-can
resolve-requires-clause-can g c =
    let s = c.args.self.now in
    let k = c.requires.keeps.book in
    can_resolve (machine_of s.job) s.job (past_of s) s.driver s.machine k.agrees c.args.page
    (placed_there s.job s.driver (past_of s) s.turns c.args.page k.agrees.shows k.turns
    (sym c.has_place.ensures ∙ c.if-not-has_place.false))

pub returns-in-Here-clause-tells : goal.returns-in-Here-clause-tells
returns-in-Here-clause-tells g c =
    let s = c.args.self.now in
    let room = c.in_ok-reserve.ensures.ok in
    let f = fetched_of s c.reserve.new.self c.resolve.new.driver c.resolve.new.machine (g.S.Backing.told c.args.store.now)
    (g.S.Backing.told c.resolve.new.store) (g.S.Backing.spare c.args.store.now) c.args.cpu c.args.page c.mode-before.result
    c.in_ok-resolve.field-0 answers.Here c.requires.keeps c.requires.cpu c.requires.due
    (sym c.has_place.ensures ∙ c.if-not-has_place.false) c.mode-before.ensures c.reserve.ensures.items (omega (arith, room))
    c.in_ok-resolve.ensures.does c.resolve.ensures.cpus c.in-Here.is in
    fetch_tells answers.Here f

pub returns-in-Again-clause-tells : goal.returns-in-Again-clause-tells
returns-in-Again-clause-tells g c =
    let s = c.args.self.now in
    let room = c.in_ok-reserve.ensures.ok in
    let f = fetched_of s c.reserve.new.self c.resolve.new.driver c.resolve.new.machine (g.S.Backing.told c.args.store.now)
    (g.S.Backing.told c.resolve.new.store) (g.S.Backing.spare c.args.store.now) c.args.cpu c.args.page c.mode-before.result
    c.in_ok-resolve.field-0 (answers.Again c.in-Again.why) c.requires.keeps c.requires.cpu c.requires.due
    (sym c.has_place.ensures ∙ c.if-not-has_place.false) c.mode-before.ensures c.reserve.ensures.items (omega (arith, room))
    c.in_ok-resolve.ensures.does c.resolve.ensures.cpus c.in-Again.is in
    fetch_tells (answers.Again c.in-Again.why) f

pub returns-in-Bus-clause-tells : goal.returns-in-Bus-clause-tells
returns-in-Bus-clause-tells g c =
    let s = c.args.self.now in
    let room = c.in_ok-reserve.ensures.ok in
    let f = fetched_of s c.reserve.new.self c.resolve.new.driver c.resolve.new.machine (g.S.Backing.told c.args.store.now)
    (g.S.Backing.told c.resolve.new.store) (g.S.Backing.spare c.args.store.now) c.args.cpu c.args.page c.mode-before.result
    c.in_ok-resolve.field-0 (answers.Bus c.in-Bus.why) c.requires.keeps c.requires.cpu c.requires.due
    (sym c.has_place.ensures ∙ c.if-not-has_place.false) c.mode-before.ensures c.reserve.ensures.items (omega (arith, room))
    c.in_ok-resolve.ensures.does c.resolve.ensures.cpus c.in-Bus.is in
    fetch_tells (answers.Bus c.in-Bus.why) f

pub returns-in-Started-clause-tells : goal.returns-in-Started-clause-tells
returns-in-Started-clause-tells g c =
    let s = c.args.self.now in
    let room = c.in_ok-reserve.ensures.ok in
    let f = fetched_of s c.reserve.new.self c.resolve.new.driver c.resolve.new.machine (g.S.Backing.told c.args.store.now)
    (g.S.Backing.told c.resolve.new.store) (g.S.Backing.spare c.args.store.now) c.args.cpu c.args.page c.mode-before.result
    c.in_ok-resolve.field-0 (answers.Started c.in-Started.entry c.in-Started.work) c.requires.keeps c.requires.cpu c.requires.due
    (sym c.has_place.ensures ∙ c.if-not-has_place.false) c.mode-before.ensures c.reserve.ensures.items (omega (arith, room))
    c.in_ok-resolve.ensures.does c.resolve.ensures.cpus c.in-Started.is in
    fetch_tells (answers.Started c.in-Started.entry c.in-Started.work) f

pub returns-in-Slot-clause-tells : goal.returns-in-Slot-clause-tells
returns-in-Slot-clause-tells g c =
    let s = c.args.self.now in
    let room = c.in_ok-reserve.ensures.ok in
    let f = fetched_of s c.reserve.new.self c.resolve.new.driver c.resolve.new.machine (g.S.Backing.told c.args.store.now)
    (g.S.Backing.told c.resolve.new.store) (g.S.Backing.spare c.args.store.now) c.args.cpu c.args.page c.mode-before.result
    c.in_ok-resolve.field-0 (answers.Slot c.in-Slot.entry) c.requires.keeps c.requires.cpu c.requires.due
    (sym c.has_place.ensures ∙ c.if-not-has_place.false) c.mode-before.ensures c.reserve.ensures.items (omega (arith, room))
    c.in_ok-resolve.ensures.does c.resolve.ensures.cpus c.in-Slot.is in
    fetch_tells (answers.Slot c.in-Slot.entry) f

pub returns-in-Here-clause-calm : goal.returns-in-Here-clause-calm
returns-in-Here-clause-calm g c = λ same.
    (let s = c.args.self.now in
    let room = c.in_ok-reserve.ensures.ok in
    let f = fetched_of s c.reserve.new.self c.resolve.new.driver c.resolve.new.machine (g.S.Backing.told c.args.store.now)
    (g.S.Backing.told c.resolve.new.store) (g.S.Backing.spare c.args.store.now) c.args.cpu c.args.page c.mode-before.result
    c.in_ok-resolve.field-0 answers.Here c.requires.keeps c.requires.cpu c.requires.due
    (sym c.has_place.ensures ∙ c.if-not-has_place.false) c.mode-before.ensures c.reserve.ensures.items (omega (arith, room))
    c.in_ok-resolve.ensures.does c.resolve.ensures.cpus c.in-Here.is in
    here_told f)

pub returns-in-Again-clause-calm : goal.returns-in-Again-clause-calm
returns-in-Again-clause-calm g c = λ same.
    (let s = c.args.self.now in
    let room = c.in_ok-reserve.ensures.ok in
    let f = fetched_of s c.reserve.new.self c.resolve.new.driver c.resolve.new.machine (g.S.Backing.told c.args.store.now)
    (g.S.Backing.told c.resolve.new.store) (g.S.Backing.spare c.args.store.now) c.args.cpu c.args.page c.mode-before.result
    c.in_ok-resolve.field-0 (answers.Again c.in-Again.why) c.requires.keeps c.requires.cpu c.requires.due
    (sym c.has_place.ensures ∙ c.if-not-has_place.false) c.mode-before.ensures c.reserve.ensures.items (omega (arith, room))
    c.in_ok-resolve.ensures.does c.resolve.ensures.cpus c.in-Again.is in
    again_told c.in-Again.why f)
