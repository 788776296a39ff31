use Rattle.std.proofs.Common.{◌≡◌, arith, ◌∙◌, sym, position, Some}
use Rattle.free_map.specs.inner.FreeMap.{is_used}
use Rattle.free_map.proofs.Marks.{least_within, least_none, position_some}
use Rattle.free_map.proofs.map.FreeMap.first.Goals as goal

pub returns-in_err-index : goal.returns-in_err-index
returns-in_err-index c =
    c.from_residual.ensures ∙ least_none _ _ _ _ c.self.invariant c.self.view_is (rw c.deref.ensures.value at (sym c.in_err-index.ensures))

pub overflow_cast-result : goal.overflow_cast-result
overflow_cast-result c =
    let found : position is_used c.self.inside.marks.items ≡ Some c.in_ok-index.index =
    rw c.deref.ensures.value at (sym c.in_ok-index.ensures) in
    omega (arith, (position_some is_used c.self.inside.marks.items _ found).1, c.self.invariant.small, c.self.invariant.sized)

pub overflow_mul-result : goal.overflow_mul-result
overflow_mul-result c =
    let found : position is_used c.self.inside.marks.items ≡ Some c.in_ok-index.index =
    rw c.deref.ensures.value at (sym c.in_ok-index.ensures) in
    omega (arith, (position_some is_used c.self.inside.marks.items _ found).1, c.self.invariant.small, c.self.invariant.sized)

pub overflow_add-result : goal.overflow_add-result
overflow_add-result c =
    let found : position is_used c.self.inside.marks.items ≡ Some c.in_ok-index.index =
    rw c.deref.ensures.value at (sym c.in_ok-index.ensures) in
    omega (arith, (least_within _ _ _ _ _ _ c.self.invariant c.self.view_is found c.index.ensures (omega arith)).0, c.self.invariant.small)

pub returns : goal.returns
returns c =
    let found : position is_used c.self.inside.marks.items ≡ Some c.in_ok-index.index =
    rw c.deref.ensures.value at (sym c.in_ok-index.ensures) in
    (least_within _ _ _ _ _ _ c.self.invariant c.self.view_is found c.index.ensures (omega arith)).1
