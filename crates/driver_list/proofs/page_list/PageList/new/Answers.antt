use Rattle.std.proofs.Common.{◌≡◌, ◌≤◌, ◌∙◌, sym, ap, arith, rules}
use Rattle.driver_list.specs.inner.Places.{PageCounts, total}
use Rattle.driver_list.specs.inner.Ranges.{counts_of}
use Rattle.driver_list.proofs.TableLaws.{empty_whole}
use Rattle.driver_list.proofs.page_list.PageList.new.Goals as goal

pub invariant_of-result-2 : goal.invariant_of-result-2
invariant_of-result-2 c =
    let counts : PageCounts = counts_of c.places.inside in
    let places : c.total-total.result ≡ total counts = c.total-total.ensures.value ∙ ap total (sym c.places.view_is) in
    let room : total counts ≤ c.in_ok-with_capacity.field-0.capacity = omega (arith, places, c.in_ok-with_capacity.ensures.capacity) in
    rw (c.in_ok-vec.ensures.items_if_clones_equal (λ y e. search rules), places)
    (empty_whole c.in_ok-with_capacity.field-0 counts c.in_ok-with_capacity.ensures.empty c.places.invariant.few room)
