-- What a change of the tables leaves of kept records and of lost pages.
use Rattle.std.proofs.Common.{◌≡◌, ℕ, ◌<◌, Bool, true, false, cond, refl, sym, ◌∙◌, ap, List, Option, None, length}
use Rattle.std.proofs.Common.{slice_set}
use Rattle.std.proofs.lemmas.Bool.{eqb-true, eqb-false}
use Rattle.std.proofs.lemmas.List.{get_or-set_other, get_or-set_same}
use Rattle.sgx_types.proofs.Pages.{same_pages}
use Rattle.sgx_types.specs.declared.names.Actor.TheVariants as actors
use Rattle.sgx_types.specs.declared.names.Cpu.{Cpu}
use Rattle.sgx_types.specs.declared.names.Page.{Page}
use Rattle.sgx_types.specs.Pages.{same_page}
use Rattle.sgx_rules.specs.Processors.{is_by}
use Rattle.driver_list.specs.inner.Keeping.{Kept, kept_at, record_kept}
use Rattle.driver_list.specs.inner.Places.{IsPlaced, total}
use Rattle.driver_list.specs.inner.States.{StateTable, state_of, with_state}
use Rattle.driver_list.specs.declared.page_states.PageState.{PageState}
use Rattle.driver_list.proofs.StateLaws.{state_of-with_state}
use Rattle.run_calls.specs.inner.Stores.{is_lost_state}

-- what is kept for the processor whose record was set
pub kept_own : (kept : List (Option Kept)) (c : Cpu) (new : Option Kept) (p : ℕ) → c.0 < length kept → is_by p (actors.Cpu c) ≡ true
    → record_kept (kept_at (slice_set kept c.0 new) p) ≡ record_kept new
kept_own kept c new p room mine =
    ap (λ q. record_kept (kept_at (slice_set kept c.0 new) q)) (sym (eqb-true c.0 p mine))
    ∙ ap record_kept (get_or-set_same kept c.0 new None room)

-- .. and for another one
pub kept_other : (kept : List (Option Kept)) (c : Cpu) (new : Option Kept) (p : ℕ) → is_by p (actors.Cpu c) ≡ false
    → record_kept (kept_at (slice_set kept c.0 new) p) ≡ record_kept (kept_at kept p)
kept_other kept c new p other = ap record_kept (get_or-set_other kept c.0 p new None (λ k. eqb-false c.0 p other (sym k)))

-- a page that is lost or not, and stays so, leaves all as they were
pub lost_same : (table : StateTable) (page g : Page) (state : PageState) → length table.states ≡ total table.counts
    → IsPlaced table.counts page → IsPlaced table.counts g → is_lost_state state ≡ is_lost_state (state_of table page)
    → is_lost_state (state_of (with_state table page state) g) ≡ is_lost_state (state_of table g)
lost_same table page g state sized placed here same =
    ap is_lost_state (state_of-with_state table page g state sized placed here) ∙ by_page (same_page g page) refl
  where
    by_page : (b : Bool) → same_page g page ≡ b → is_lost_state (cond b state (state_of table g)) ≡ is_lost_state (state_of table g)
    by_page true is = same ∙ ap (λ x. is_lost_state (state_of table x)) (sym (same_pages g page is))
    by_page false is = refl
