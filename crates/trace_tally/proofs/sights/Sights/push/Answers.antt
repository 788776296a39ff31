use Rattle.std.proofs.Common.{◌||◌, ap, ◌∙◌}
use Rattle.sgx_rules.specs.Frames.{is_this}
use Rattle.trace_tally.specs.Tests.{back_by}
use Rattle.trace_tally.proofs.SightLaws.{blocks_more}
use Rattle.trace_tally.proofs.sights.Sights.push.Goals as goal

pub returns : goal.returns
returns c = λ past knows.
    let e = c.args.entry.now in
    record {
      places = c.in_ok-push-3.ensures.stands past knows.places;
      insides = c.in_ok-push-2.ensures past knows.insides;
      blocks =
          blocks_more c.args.self.now.blocks c.push.new.self e past c.is_blocked_entered-is_entered.result knows.blocks
          (c.is_blocked_entered-is_entered.ensures past knows) c.in_ok-push.ensures;
      back = λ g. c.in_ok-note_back.ensures g ∙ ap (λ b. is_this (back_by e.event) g || b) (knows.back g);
    }
