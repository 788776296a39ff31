-- What a page's new state leaves of every page's.
use Rattle.std.proofs.Common.{◌≡◌, length, cond, sym, ap, ◌∙◌, ⊎_elim}
use Rattle.std.proofs.lemmas.Bool.{cond-true, cond-false, false_from_ne_true}
use Rattle.std.proofs.lemmas.List.{get_or-set_same, get_or-set_other}
use Rattle.sgx_types.specs.declared.names.Page.{Page}
use Rattle.sgx_types.specs.Pages.{same_page}
use Rattle.sgx_types.proofs.Pages.{same_pages, same_page-refl}
use Rattle.driver_list.specs.declared.page_states.PageState.{PageState}
use Rattle.driver_list.specs.declared.page_states.PageState.TheVariants.{Absent}
use Rattle.driver_list.specs.inner.Places.{IsPlaced, place_of, total}
use Rattle.driver_list.specs.inner.States.{StateTable, state_of, with_state}
use Rattle.driver_list.proofs.PlaceLaws.{same_place, place_within}
use Rattle.driver_list.proofs.PageLaws.{pages_cases}

pub state_of-with_state : (table : StateTable) (page q : Page) (state : PageState) → length table.states ≡ total table.counts
    → IsPlaced table.counts page → IsPlaced table.counts q
    → state_of (with_state table page state) q ≡ cond (same_page q page) state (state_of table q)
state_of-with_state table page q state sized placed here =
    ⊎_elim
    (λ same.
    ap (state_of (with_state table page state)) same
    ∙ get_or-set_same table.states (place_of table.counts page) state Absent (rw sized (place_within table.counts page placed))
    ∙ sym (cond-true (same_page q page) state (state_of table q) (ap (λ r. same_page r page) same ∙ same_page-refl page)))
    (λ other.
    get_or-set_other table.states (place_of table.counts page) (place_of table.counts q) state Absent
    (λ same. other (same_place table.counts q page here placed same))
    ∙ sym (cond-false (same_page q page) state (state_of table q)
    (false_from_ne_true (same_page q page) (λ t. other (same_pages q page t)))))
    (pages_cases q page)
