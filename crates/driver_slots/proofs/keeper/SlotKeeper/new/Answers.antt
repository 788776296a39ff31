use Rattle.std.proofs.Common.{◌∙◌, ◌+◌, ap, subst, sym, true, replicate, length}
use Rattle.std.proofs.lemmas.List.{length_push}
use Rattle.std.specs.List.{All}
use Rattle.std.proofs.lemmas.List.Elements.{All-push}
use Rattle.driver_slots.specs.inner.KeeperKept.{IsAllFree}
use Rattle.driver_slots.proofs.ArrayLaws.{all_is}
use Rattle.driver_slots.proofs.keeper.SlotKeeper.new.Goals as goal

pub loop-preserved : goal.loop-preserved
loop-preserved c =
    let p = c.push_reserved.ensures in
    let all : IsAllFree c.in_ok-full.field-0 = c.in_ok-full.ensures ∙ ap (λ n. replicate n true) c.from.ensures ∙ all_is in
    record {
      maps = subst (All IsAllFree) (sym p.items) (All-push IsAllFree c.loop.maps.items c.in_ok-full.field-0 c.loop.invariant.maps all);
      count = ap length p.items ∙ length_push c.loop.maps.items c.in_ok-full.field-0 ∙ ap (λ n. n + 1) c.loop.invariant.count;
      room = p.capacity ∙ c.loop.invariant.room;
    }
