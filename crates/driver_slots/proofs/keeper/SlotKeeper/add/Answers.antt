use Rattle.std.proofs.Common.{◌≡◌, ◌+◌, List, length, ap, subst, sym, false, arith}
use Rattle.std.specs.List.{All}
use Rattle.std.proofs.lemmas.List.{length_push}
use Rattle.std.proofs.lemmas.List.Elements.{All-push}
use Rattle.driver_slots.specs.inner.Keeper.{ArrayView, is_added, IsArray, Keeper}
use Rattle.driver_slots.specs.inner.KeeperKept.{ArraysAreApart, keeper_of}
use Rattle.driver_slots.proofs.ArrayLaws.{array_from}
use Rattle.driver_slots.proofs.KeeperLaws.{adds}
use Rattle.driver_slots.proofs.WriteLaws.{all_but_last, apart_more, with_arrays}
use Rattle.driver_slots.proofs.keeper.SlotKeeper.add.Goals as goal

fresh : (c : goal.After-push_reserved) → is_added (keeper_of c.self.inside) c.args.va ≡ false
fresh c = rw (← c.self.view_is) at c.requires.fresh

fits : (c : goal.After-push_reserved) → IsArray c.new.result
fits c = array_from c.new.result c.args.first c.requires.within c.new.ensures.first c.new.ensures.free c.new.ensures.counted
    c.new.ensures.sized

pub invariant_of-self : goal.invariant_of-self
invariant_of-self c =
    let xs : List ArrayView = c.self.inside.arrays.items in
    let p = c.push_reserved.ensures in
    record {
      apart = subst ArraysAreApart (sym p.items) (apart_more xs c.args.va c.new.result c.self.invariant.apart c.new.ensures.va (fresh c));
      arrays = subst (All IsArray) (sym p.items) (All-push IsArray xs c.new.result c.self.invariant.arrays (fits c));
      maps = all_but_last c.self.inside.maps.items c.pop.new.self.items c.in-Some.all c.in-Some.ensures.items c.self.invariant.maps;
      fits = omega (
        arith,
        ap length p.items,
        length_push xs c.new.result,
        p.capacity,
        ap length c.in-Some.ensures.items,
        length_push c.pop.new.self.items c.in-Some.all,
        c.self.invariant.fits,
      );
    }

pub returns : goal.returns
returns c =
    let xs : List ArrayView = c.self.inside.arrays.items in
    let p = c.push_reserved.ensures in
    let old : Keeper = keeper_of c.self.inside in
    let new : Keeper = with_arrays c.push_reserved.new.self.items (length c.push_reserved.new.self.items + length c.pop.new.self.items) in
    rw (← c.self.view_is)
    (adds old new c.args.va c.args.first c.new.result (record {
      arrays = c.self.invariant.arrays;
      fresh = fresh c;
      written = p.items;
      room = omega (
        arith,
        ap length p.items,
        length_push xs c.new.result,
        ap length c.in-Some.ensures.items,
        length_push c.pop.new.self.items c.in-Some.all,
      );
      va_is = c.new.ensures.va;
      first_is = c.new.ensures.first;
      fits = fits c;
      free = c.new.ensures.free;
      counted = c.new.ensures.counted;
    }))
