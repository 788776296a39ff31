use Rattle.std.proofs.Common.{◌≡◌, ◌∙◌, ◌∷◌, [], ◌++◌, List, length, map, replicate, sym, ap, subst, arith}
use Rattle.std.proofs.Common.{rules}
use Rattle.std.specs.List.{All}
use Rattle.std.proofs.lemmas.List.{map-append, replicate_more, length-map, length-replicate}
use Rattle.sgx_types.specs.declared.names.Page.{Page}
use Rattle.driver_list.specs.inner.KeptHolds.{pages_in}
use Rattle.driver_list.specs.inner.Places.{PageCounts, total}
use Rattle.driver_list.specs.inner.Ranges.{counts_of}
use Rattle.driver_list.proofs.HoldLaws.{IsRoomy, none_hold, roomy_push}
use Rattle.driver_list.proofs.holds.Holds.new.Goals as goal

abbrev no_pages : List Page
no_pages = []

pub push_reserved-requires : goal.push_reserved-requires
push_reserved-requires c =
    let size : length c.loop.own.items ≡ c.loop.counter = simp (length-map, length-replicate) at (ap length c.loop.invariant.own) in
    omega (arith, size, c.loop.own.ok.0, c.loop.invariant.room)

pub loop-init : goal.loop-init
loop-init c = record {
  own = ap (map pages_in) c.in_ok-own.ensures.items;
  roomy = λ k d low. absurd (omega (arith, low, ap length c.in_ok-own.ensures.items));
  room = c.in_ok-own.ensures.capacity;
}

pub loop-preserved : goal.loop-preserved
loop-preserved c = record {
  own =
      ap (map pages_in) c.push_reserved.ensures.items
      ∙ map-append pages_in c.loop.own.items (c.in_ok-with_capacity.field-0 ∷ [])
      ∙ ap (λ (o : List (List Page)). o ++ c.in_ok-with_capacity.field-0.items ∷ []) c.loop.invariant.own
      ∙ ap (λ (ps : List Page). replicate c.loop.counter no_pages ++ ps ∷ []) c.in_ok-with_capacity.ensures.items
      ∙ replicate_more c.loop.counter no_pages;
  roomy = subst (All IsRoomy) (sym c.push_reserved.ensures.items)
      (roomy_push c.loop.own.items c.in_ok-with_capacity.field-0 c.loop.invariant.roomy c.in_ok-with_capacity.ensures.capacity);
  room = rw c.push_reserved.ensures.capacity c.loop.invariant.room;
}

pub invariant_of-result-2 : goal.invariant_of-result-2
invariant_of-result-2 c =
    let counts : PageCounts = counts_of c.places.inside in
    let places : c.total-total.result ≡ total counts = c.total-total.ensures.value ∙ ap total (sym c.places.view_is) in
    let marks : c.in_ok-vec.field-0.items ≡ replicate (total counts) 0 =
    c.in_ok-vec.ensures.items_if_clones_equal (λ y e. search rules) ∙ ap (λ n. replicate n 0) places in
    let ended : c.loop.counter ≡ 17 = omega arith in
    let own : map pages_in c.loop.own.items ≡ replicate 17 no_pages = c.loop.invariant.own ∙ ap (λ n. replicate n no_pages) ended in
    record { holds = rw (marks, own) (none_hold counts); room = c.loop.invariant.roomy }
