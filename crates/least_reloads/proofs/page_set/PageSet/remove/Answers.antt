use Rattle.std.proofs.Common.{false, if◌then◌else◌, ap, ◌∙◌}
use Rattle.sgx_types.specs.Pages.{same_page}
use Rattle.least_reloads.specs.Plans.{has}
use Rattle.least_reloads.proofs.page_set.PageSet.remove.Goals as goal

pub returns-clause-new : goal.returns-clause-new
returns-clause-new c = λ g.
    c.remove.ensures.updates.0 g ∙ ap (λ pages. if same_page c.args.page g then false else has pages g) c.self.view_is
