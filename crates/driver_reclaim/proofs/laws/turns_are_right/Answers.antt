use Rattle.driver_reclaim.proofs.DueLaws.{turn_is_due}
use Rattle.driver_reclaim.proofs.KeptLaws.{turn_keeps}
use Rattle.driver_reclaim.proofs.MoveLaws.{places_kept}
use Rattle.driver_reclaim.proofs.ShownLaws.{turn_shown}
use Rattle.driver_reclaim.proofs.StandLaws.{turn_stands}
use Rattle.driver_reclaim.proofs.laws.turns_are_right.Goals as goal

pub returns : goal.returns
returns c = record {
  due = λ made j past v v' d d' m m' turn r says. turn_is_due made j past v v' d d' m m' turn r says;
  kept = λ made j past v v' d d' m m' turn r says. turn_keeps made j past v v' d d' m m' turn r says;
  stands = λ made j past v v' d d' m m' turn r says waits. turn_stands made j past v v' d d' m m' turn r says waits;
  shows = λ made j past v v' d d' m m' turn r says waits. turn_shown made j past v v' d d' m m' turn r says waits;
  spare = λ v v' d d' m m' turn n says waits low. places_kept v v' d d' m m' turn n says waits low;
}
