use Rattle.std.proofs.Common.{ℕ, ◌%◌, ap, ◌∙◌, sym, eqb-true, eq-eqb}
use Rattle.frame_gate.proofs.seats.PagerSeat.is_free.Goals as goal

pub returns : goal.returns
returns c =
    let same = ap (λ (w : ℕ). w % 4) c.word.ensures in
    ((λ h. sym same ∙ eqb-true _ _ h), (λ h. eq-eqb _ _ (same ∙ h)))
