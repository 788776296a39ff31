use Rattle.std.proofs.Common.{◌∙◌, sym, ap}
use Rattle.driver_list.specs.inner.KeptActive.{unheld_in}
use Rattle.driver_list.proofs.PageLaws.{touched_pages}
use Rattle.driver_list.proofs.active.Active.touch.Goals as goal

pub invariant_of-self : goal.invariant_of-self
invariant_of-self c =
    rw c.touch.ensures
    (record {
      counts = c.self.invariant.counts;
      unheld =
          c.self.invariant.unheld ∙ ap (unheld_in c.self.inside.holds.own) (sym (touched_pages c.args.page c.self.inside.list.pages));
    })
