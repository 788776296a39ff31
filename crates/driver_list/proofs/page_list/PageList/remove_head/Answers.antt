use Rattle.std.proofs.Common.{◌≢◌, ◌∙◌, refl, sym, ap, List, [], ◌∷◌}
use Rattle.driver_list.specs.declared.ring.Listed.{Listed}
use Rattle.driver_list.specs.inner.Ring.{around}
use Rattle.driver_list.specs.inner.Listing.{Listing}
use Rattle.driver_list.proofs.TableLaws.{head_removed, kept, kept_list}
use Rattle.driver_list.proofs.page_list.PageList.remove_head.Goals as goal

pub invariant_of-self : goal.invariant_of-self
invariant_of-self c =
    let some : around c.self.inside.nodes c.self.inside.last ≢ [] =
    λ none. c.requires (ap (λ (a : Listing). a.pages) (sym c.self.view_is) ∙ none) in
    let out = head_removed c.self.inside.nodes c.detach_first-last.new.nodes c.self.inside.last c.unwrap-last.result
    c.detach_first-last.result.1 c.self.inside.keys.items c.self.inside.places _ c.detach_first-last.result.0 c.self.invariant some
    c.unwrap-last.ensures c.detach_first-last.ensures in
    rw c.place-place.ensures.value (kept _ _ _ _ _ out.whole)

pub returns-clause-new : goal.returns-clause-new
returns-clause-new c =
    let some : around c.self.inside.nodes c.self.inside.last ≢ [] =
    λ none. c.requires (ap (λ (a : Listing). a.pages) (sym c.self.view_is) ∙ none) in
    let out = head_removed c.self.inside.nodes c.detach_first-last.new.nodes c.self.inside.last c.unwrap-last.result
    c.detach_first-last.result.1 c.self.inside.keys.items c.self.inside.places _ c.detach_first-last.result.0 c.self.invariant some
    c.unwrap-last.ensures c.detach_first-last.ensures in
    rw (← c.self.view_is)
    (record {
      young = out.young;
      pages = out.splits ∙ ap (λ (l : List Listed). record { page = c.detach_first-last.result.0; young = out.young } ∷ l)
          (sym (kept_list _ _ _ _ _ out.whole));
      counts = refl;
    })
