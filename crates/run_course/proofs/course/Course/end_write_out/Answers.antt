use Rattle.std.proofs.Common.{subst, sym, ap, ◌∙◌}
use Rattle.driver_pass.specs.inner.Viewed.{is_kicked}
use Rattle.script_rules.specs.Machines.{machine_of}
use Rattle.run_course.specs.inner.Courses.{past_of}
use Rattle.sgx_machine.specs.inner.Parts.{state_of}
use Rattle.run_course.specs.inner.Turns.{EndsOut}
use Rattle.run_course.proofs.CallLaws.{stored_tells, stored_writes}
use Rattle.run_course.proofs.EndTurnLaws.{course_open, end_is_own, ended_calm, one_out}
use Rattle.run_course.proofs.course.Course.end_write_out.Goals as goal

pub stored-entry-requires-clause-started : goal.stored-entry-requires-clause-started
stored-entry-requires-clause-started g c =
    (course_open c.args.self.now (g.S.Backing.told c.args.store.now) (g.S.Backing.spare c.args.store.now)
    c.requires.keeps c.requires.sealing).1

pub stored-entry-requires-clause-place : goal.stored-entry-requires-clause-place
stored-entry-requires-clause-place g c =
    one_out c.args.self.now (g.S.Backing.told c.args.store.now) (g.S.Backing.spare c.args.store.now) c.requires.keeps c.requires.sealing

pub take_own-requires : goal.take_own-requires
take_own-requires g c =
    let k = c.requires.keeps in
    let e = c.stored-entry.ensures in
    let made = machine_of c.args.self.now.job in
    let past = past_of c.args.self.now in
    record {
      longer = g.S.Backing.told c.stored-entry.new.store;
      spare = g.S.Backing.spare c.stored-entry.new.store;
      is = end_is_own c.args.self.now (g.S.Backing.told c.args.store.now) (g.S.Backing.told c.stored-entry.new.store)
          (g.S.Backing.spare c.args.store.now) (g.S.Backing.spare c.stored-entry.new.store) (g.S.Backing.faults c.args.store.now)
          (g.S.Backing.faults c.stored-entry.new.store) c.stored-entry.result c.stored-entry.new.pass c.stored-entry.new.driver
          c.stored-entry.new.machine k c.requires.going c.requires.sealing
          e.says e.pass e.used (e.shape made past k.book.agrees.follows)
          (e.fits made past k.book.agrees.follows k.book.agrees.fits) e.arrays e.cpus;
    }

pub returns-clause-grows : goal.returns-clause-grows
returns-clause-grows g c =
    let k = c.requires.keeps in
    let e = c.stored-entry.ensures in
    let made = machine_of c.args.self.now.job in
    let past = past_of c.args.self.now in
    let grows = c.take_own.ensures.grows (record {
      longer = g.S.Backing.told c.stored-entry.new.store;
      spare = g.S.Backing.spare c.stored-entry.new.store;
      is = end_is_own c.args.self.now (g.S.Backing.told c.args.store.now) (g.S.Backing.told c.stored-entry.new.store)
          (g.S.Backing.spare c.args.store.now) (g.S.Backing.spare c.stored-entry.new.store) (g.S.Backing.faults c.args.store.now)
          (g.S.Backing.faults c.stored-entry.new.store) c.stored-entry.result c.stored-entry.new.pass c.stored-entry.new.driver
          c.stored-entry.new.machine k c.requires.going c.requires.sealing
          e.says e.pass e.used (e.shape made past k.book.agrees.follows)
          (e.fits made past k.book.agrees.follows k.book.agrees.fits) e.arrays e.cpus;
    }) in
    record {
      entries = grows.entries;
      count = grows.count;
      actors = grows.actors;
      past = grows.past;
      job = grows.job;
      kicks = tt;
      keeps = grows.keeps;
    }

pub returns-clause-ends : goal.returns-clause-ends
returns-clause-ends g c =
    subst EndsOut (sym c.take_own.ensures.past)
    (stored_writes c.args.self.now.pass (state_of c.args.self.now.machine)
    (state_of c.stored-entry.new.machine) c.args.self.now.driver c.stored-entry.new.driver (g.S.Backing.told c.args.store.now)
    (g.S.Backing.told c.stored-entry.new.store) (g.S.Backing.faults c.args.store.now) (g.S.Backing.faults c.stored-entry.new.store)
    c.stored-entry.result c.stored-entry.ensures.says)

pub returns-clause-tells : goal.returns-clause-tells
returns-clause-tells g c =
    stored_tells c.args.self.now.pass (state_of c.args.self.now.machine)
    (state_of c.stored-entry.new.machine) c.args.self.now.driver c.stored-entry.new.driver (g.S.Backing.told c.args.store.now)
    (g.S.Backing.told c.stored-entry.new.store) (g.S.Backing.faults c.args.store.now) (g.S.Backing.faults c.stored-entry.new.store)
    c.stored-entry.result c.stored-entry.ensures.says

pub returns-clause-kicks : goal.returns-clause-kicks
returns-clause-kicks g c =
    c.take_own.ensures.kicks ∙ (ap is_kicked c.stored-entry.ensures.pass
    ∙ ended_calm c.args.self.now (g.S.Backing.told c.args.store.now) (g.S.Backing.told c.stored-entry.new.store)
    (g.S.Backing.spare c.args.store.now) (g.S.Backing.faults c.args.store.now) (g.S.Backing.faults c.stored-entry.new.store)
    c.stored-entry.result c.stored-entry.new.driver (state_of c.args.self.now.machine) (state_of c.stored-entry.new.machine)
    c.requires.keeps c.stored-entry.ensures.says)
