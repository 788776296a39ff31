-- A slot that was taken and given back leaves the keeper as before.
use Rattle.std.proofs.Common.{◌≡◌, inl, inr, arith, ◌&&◌, ◌||◌, not, Bool, true, false, None, refl, sym, ◌∙◌, ap, subst}
use Rattle.std.proofs.lemmas.Bool.{false≢true}
use Rattle.sgx_types.proofs.Pages.{same_slots}
use Rattle.sgx_types.specs.declared.names.VaSlot.{VaSlot}
use Rattle.sgx_types.specs.Pages.{same_slot}
use Rattle.sgx_types.specs.declared.names.Actor.TheVariants as actors
use Rattle.sgx_rules.specs.declared.entries.Action.{Action}
use Rattle.sgx_rules.specs.declared.entries.Entry.{Entry}
use Rattle.machine_laws.proofs.RowLaws.{IsEntryOf, step_entry}
use Rattle.machine_laws.specs.inner.State.{State}
use Rattle.machine_laws.specs.inner.Steps.{IsStep}
use Rattle.driver_reclaim.specs.inner.Asked.{look_of}
use Rattle.driver_slots.specs.inner.Keeper.{Gives, is_out, Keeper, Takes}
use Rattle.driver_laws.specs.inner.Keeps.{IsSameOut}
use Rattle.driver_reclaim.specs.inner.Tried.{SlotsAfter}

given_back : (old mid new : Keeper) (slot : VaSlot) → Takes old slot mid → Gives mid slot new → IsSameOut old new
given_back old mid new slot takes gives = record {
  pages = record {
    added = λ va. gives.pages.added va ∙ takes.pages.added va;
    ours = λ s. gives.pages.ours s ∙ takes.pages.ours s;
    pages = gives.pages.pages ∙ takes.pages.pages;
    all = gives.pages.all ∙ takes.pages.all;
    room = gives.pages.room ∙ takes.pages.room;
  };
  out = λ t. gives.out t ∙ ap (λ b. not (same_slot slot t) && b) (takes.out t) ∙ by_test t (same_slot slot t) refl;
  counted = let back = gives.counted in let out = takes.counted in omega (arith, back, out);
}
  where
    by_test : (t : VaSlot) (b : Bool) → same_slot slot t ≡ b → (not b && (b || is_out old t)) ≡ is_out old t
    by_test t true is = sym (subst (λ s. is_out old s ≡ false) (same_slots slot t is) takes.was_in)
    by_test t false is = refl

-- an instruction is no look
pub step_calm : (s t : State) (action : Action) (e : Entry) → IsStep s actors.Reclaimer action e t → look_of e.event ≡ None
step_calm s t action e step = by_entry (step_entry s t actors.Reclaimer action e step)
  where
    by_entry : IsEntryOf actors.Reclaimer action e → look_of e.event ≡ None
    by_entry (inl (answer, is)) = ap (λ (x : Entry). look_of x.event) is
    by_entry (inr (refusal, is)) = ap (λ (x : Entry). look_of x.event) is

pub after_refusal : (old mid new : Keeper) (slot : VaSlot) (keeps : Bool) → keeps ≡ false → Takes old slot mid → Gives mid slot new
    → SlotsAfter old slot keeps new
after_refusal old mid new slot false is takes gives = given_back old mid new slot takes gives
after_refusal old mid new slot true is takes gives = absurd (false≢true (sym is))
