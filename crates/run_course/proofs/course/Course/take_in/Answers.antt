use Rattle.std.proofs.Common.{◌≡◌, ◌∷◌, ◌∙◌, sym, subst, ap}
use Rattle.script_rules.specs.Machines.{machine_of}
use Rattle.driver_rules.specs.Passes.{free_count, pass, pass_after}
use Rattle.driver_pass.specs.inner.Noted.{decided}
use Rattle.driver_pass.specs.inner.Standing.{StandsAt}
use Rattle.driver_pass.specs.inner.Viewed.{is_amid, is_kicked, is_sealing, PassView, still_out}
use Rattle.driver_pass.proofs.GoLaws.{pass_settles}
use Rattle.run_laws.proofs.EntryLaws.{free_told}
use Rattle.run_course.specs.declared.course.Course.{Course}
use Rattle.run_course.specs.inner.Courses.{past_of}
use Rattle.run_course.proofs.SettleLaws.{settled_amid, settled_kicked, settled_out, settled_sealing}
use Rattle.run_course.proofs.course.Course.take_in.Goals as goal

pub returns-clause-book : goal.returns-clause-book
returns-clause-book c = λ take. c.record_entry.ensures.book take.can

pub returns-clause-stands : goal.returns-clause-stands
returns-clause-stands c = λ take.
    (let s = c.args.self.now in
    let e = c.args.entry.now in
    let new = c.record_entry.new.self in
    let free = c.free_count-free.result in
    let book = c.record_entry.ensures.book take.can in
    let same : new.pass ≡ s.pass = ap (λ (x : Course). x.pass) c.record_entry.ensures.others in
    let is = c.settle.ensures ∙ ap (λ m. decided m free new.pass) book.agrees.shows.marks ∙ ap (decided s.job.marks free) same in (
      subst (StandsAt s.job.start_epoch s.job (e ∷ past_of s)) (sym is)
          (pass_settles s.job.start_epoch s.job (e ∷ past_of s) s.pass free (free_count s.job.epc (e ∷ past_of s))
          (pass_after s.job (past_of s) e.actor e.event (pass s.job (past_of s)))
          (c.free_count-free.ensures
          ∙ free_told (machine_of s.job) s.job (e ∷ past_of s) new.machine book.agrees.follows book.agrees.frames) take.stands),
      ap is_amid is ∙ settled_amid s.job.marks free s.pass ∙ take.whole,
    ))

pub returns-clause-places : goal.returns-clause-places
returns-clause-places c =
    let new = c.record_entry.new.self in
    ap still_out c.settle.ensures ∙ settled_out new.driver.marks c.free_count-free.result new.pass
    ∙ ap (λ (x : Course). still_out x.pass) c.record_entry.ensures.others

pub returns-clause-sealing : goal.returns-clause-sealing
returns-clause-sealing c =
    let new = c.record_entry.new.self in
    ap is_sealing c.settle.ensures ∙ settled_sealing new.driver.marks c.free_count-free.result new.pass
    ∙ ap (λ (x : Course). is_sealing x.pass) c.record_entry.ensures.others

pub returns-clause-kicks : goal.returns-clause-kicks
returns-clause-kicks c =
    let new = c.record_entry.new.self in
    ap is_kicked c.settle.ensures ∙ settled_kicked new.driver.marks c.free_count-free.result new.pass
    ∙ ap (λ (x : Course). is_kicked x.pass) c.record_entry.ensures.others
