use Rattle.std.proofs.Common.{◌∙◌, ap, position}
use Rattle.std.specs.Option.{option_map}
use Rattle.epcm_entry.proofs.Frames.{first_is}
use Rattle.epcm_entry.proofs.epc.Epc.first_free.Goals as goal

pub returns-in_err-number : goal.returns-in_err-number
returns-in_err-number c =
    c.from_residual.ensures ∙ ap (option_map (λ f. record { 0 = f }))
    (c.in_err-number.ensures ∙ ap (position (λ b. b)) c.self.invariant.marked ∙ first_is _ _ _ c.self.invariant.paged c.self.view_is)

pub returns : goal.returns
returns c = ap (option_map (λ f. record { 0 = f }))
    (c.in_ok-number.ensures ∙ ap (position (λ b. b)) c.self.invariant.marked ∙ first_is _ _ _ c.self.invariant.paged c.self.view_is)
