use Rattle.std.proofs.Common.{refl}
use Rattle.track_epoch.proofs.CounterLaws.{left_older, left_newer}
use Rattle.track_epoch.proofs.track.Track.leave.Goals as goal

pub returns-then-epoch-self-clause-left : goal.returns-then-epoch-self-clause-left
returns-then-epoch-self-clause-left c =
    let counters = c.self.inside in
    let noted = left_older counters.epoch counters.older counters.newer c.args.epoch c.self.invariant.positive
    (rw (← c.self.view_is) at c.requires) c.if-epoch-self.true in
    rw (← c.self.view_is, noted) refl

pub returns-else-epoch-self-clause-left : goal.returns-else-epoch-self-clause-left
returns-else-epoch-self-clause-left c =
    let counters = c.self.inside in
    let noted = left_newer counters.epoch counters.older counters.newer c.args.epoch c.self.invariant.positive
    (rw (← c.self.view_is) at c.requires) c.if-epoch-self.false in
    rw (← c.self.view_is, noted) refl
