use Rattle.std.proofs.Common.{length, sym, ap, ◌∙◌}
use Rattle.std.proofs.lemmas.List.{length-map}
use Rattle.driver_pass.specs.inner.Viewed.{is_kicked}
use Rattle.run_laws.proofs.FreshLaws.{made_same}
use Rattle.run_course.proofs.FirstLaws.{course_first}
use Rattle.run_course.proofs.course.Course.new.Goals as goal

-- machine, driver, tables and pass are new
pub returns-clause-keeps : goal.returns-clause-keeps
returns-clause-keeps c told spare none =
    course_first _ told spare
    (record {
      machine = record {
        value = made_same c.args.job c.in_ok-machine.machine c.epc.result (length c.scripts.result.now) c.key.result.now
            c.start_epoch.result c.start_version.result c.in_ok-machine.ensures.value c.epc.ensures.value
            (sym (length-map c.scripts.result.now (λ script. script.items)) ∙ ap length c.scripts.ensures) c.key.ensures
            c.start_epoch.ensures.value c.start_version.ensures.value;
        shape = c.in_ok-machine.ensures.shape;
        history = c.in_ok-machine.ensures.history;
      };
      driver = c.in_ok-driver.ensures;
      turns = c.in_ok-turns.ensures;
      pass = c.in_ok-pass.ensures;
      entries = c.in_ok-entries.ensures;
    })
    none

pub returns-clause-kicks : goal.returns-clause-kicks
returns-clause-kicks c = ap is_kicked c.in_ok-pass.ensures
