use Rattle.std.proofs.Common.{◌≢◌, ◌∙◌, sym, ap, List, []}
use Rattle.driver_list.specs.declared.ring.Listed.{Listed}
use Rattle.driver_list.specs.inner.Ring.{around}
use Rattle.driver_list.specs.inner.Listing.{Listing}
use Rattle.driver_list.proofs.TableLaws.{head_turned, kept, kept_list}
use Rattle.driver_list.proofs.page_list.PageList.to_tail.Goals as goal

pub invariant_of-self : goal.invariant_of-self
invariant_of-self c =
    let some : around c.self.inside.nodes c.self.inside.last ≢ [] =
    λ none. c.requires (ap (λ (a : Listing). a.pages) (sym c.self.view_is) ∙ none) in
    let whole = head_turned c.self.inside.nodes c.set_young.new.nodes c.self.inside.last c.unwrap-last.result c.index.result.now
    c.self.inside.keys.items c.self.inside.places _ c.self.invariant some c.unwrap-last.ensures c.index.ensures c.set_young.ensures in
    kept _ _ _ _ _ whole

pub returns : goal.returns
returns c =
    let some : around c.self.inside.nodes c.self.inside.last ≢ [] =
    λ none. c.requires (ap (λ (a : Listing). a.pages) (sym c.self.view_is) ∙ none) in
    let whole = head_turned c.self.inside.nodes c.set_young.new.nodes c.self.inside.last c.unwrap-last.result c.index.result.now
    c.self.inside.keys.items c.self.inside.places _ c.self.invariant some c.unwrap-last.ensures c.index.ensures c.set_young.ensures in
    rw (← c.self.view_is) (ap (λ (l : List Listed). record { pages = l; counts = c.self.inside.places }) (kept_list _ _ _ _ _ whole))
