use Rattle.std.proofs.Common.{refl}
use Rattle.trace_places.proofs.StandLaws.{kept_standing}
use Rattle.trace_places.proofs.places.Places.reserve.Goals as goal

pub returns-in_err-reserve-3-clause-same : goal.returns-in_err-reserve-3-clause-same
returns-in_err-reserve-3-clause-same c = kept_standing c.args.self.now
    _ c.reserve.ensures.entries.2 c.reserve-in-Some-Puts.ensures.same c.reserve-2.ensures.entries.2 refl

pub returns-in_ok-reserve-3-clause-same : goal.returns-in_ok-reserve-3-clause-same
returns-in_ok-reserve-3-clause-same c = kept_standing c.args.self.now
    _ c.reserve.ensures.entries.2 c.reserve-in-Some-Puts.ensures.same c.reserve-2.ensures.entries.2 refl

pub returns-in_ok-reserve-2-clause-same : goal.returns-in_ok-reserve-2-clause-same
returns-in_ok-reserve-2-clause-same c = kept_standing c.args.self.now
    _ c.reserve.ensures.entries.2 (λ t. refl) c.reserve-2.ensures.entries.2 refl

pub returns-in_ok-reserve-2-2-clause-same : goal.returns-in_ok-reserve-2-2-clause-same
returns-in_ok-reserve-2-2-clause-same c = kept_standing c.args.self.now
    _ c.reserve.ensures.entries.2 (λ t. refl) c.reserve-2.ensures.entries.2 refl
