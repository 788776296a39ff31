use Rattle.std.proofs.Common.{◌≡◌, ◌∙◌, List, [], ◌∷◌, ◌++◌, Option, None, length, map, replicate, ap, arith}
use Rattle.std.proofs.lemmas.List.{map-append, replicate_more, length-map, length-replicate}
use Rattle.sgx_types.specs.declared.names.Page.{Page}
use Rattle.driver_list.specs.inner.Keeping.{Kept}
use Rattle.driver_list.specs.inner.Rooms.{kept_of, kept_by}
use Rattle.driver_list.proofs.kept_records.KeptRecords.new.Goals as goal

abbrev none_kept : Option Kept
none_kept = None

pub push_reserved-requires : goal.push_reserved-requires
push_reserved-requires c =
    let size : length c.loop.rooms.items ≡ c.loop.counter = simp (length-map, length-replicate) at (ap length c.loop.invariant.rooms) in
    omega (arith, size, c.loop.rooms.ok.0, c.loop.invariant.room)

pub loop-preserved : goal.loop-preserved
loop-preserved c = record {
  rooms =
      ap (map kept_by) c.push_reserved.ensures.items
      ∙ map-append kept_by c.loop.rooms.items (c.in_ok-new.field-0 ∷ [])
      ∙ ap (λ (ks : List (Option Kept)). ks ++ kept_by c.in_ok-new.field-0 ∷ []) c.loop.invariant.rooms
      ∙ ap (λ (p : Option Page). replicate c.loop.counter none_kept ++ kept_of p c.in_ok-new.field-0.record ∷ []) c.in_ok-new.ensures
      ∙ replicate_more c.loop.counter none_kept;
  room = c.push_reserved.ensures.capacity ∙ c.loop.invariant.room;
}
