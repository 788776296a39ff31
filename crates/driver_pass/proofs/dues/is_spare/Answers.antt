use Rattle.std.proofs.Common.{◌∙◌, sym}
use Rattle.driver_pass.proofs.dues.is_spare.Goals as goal

pub any_busy-requires : goal.any_busy-requires
any_busy-requires c =
    (c.requires.can.here c.args.va c.in-Here.frame c.requires.made (sym c.state.ensures.value ∙ c.in-Here.is)).0
