-- Where the reclaimer is ready and no write-out of it is open, its next turn can be made.
use Rattle.std.proofs.Common.{◌≡◌, ℕ, nat_lt, Bool, true, false, if◌then◌else◌, refl, sym, ◌∙◌, ap, List, Some, arith}
use Rattle.sgx_types.proofs.Truths.{both_true}
use Rattle.sgx_types.specs.Making.{Making}
use Rattle.sgx_types.specs.Pages.{is_va_page, va_page}
use Rattle.sgx_types.specs.declared.names.Page.{Page}
use Rattle.sgx_types.specs.declared.names.SlotAt.{SlotAt}
use Rattle.sgx_types.specs.declared.names.VaSlot.{VaSlot}
use Rattle.sgx_rules.specs.declared.entries.Entry.{Entry}
use Rattle.sgx_rules.specs.Frames.{vas_made}
use Rattle.job_grammar.specs.Jobs.{JobView}
use Rattle.driver_slots.specs.inner.Keeper.{is_ours, is_out}
use Rattle.driver_list.specs.inner.Places.{IsPlaced}
use Rattle.sgx_machine.specs.inner.Parts.{Parts, state_of}
use Rattle.driver_rules.specs.inner.Slotted.{fixed_slot}
use Rattle.driver_rules.specs.Places.{Here, is_here, Place, place}
use Rattle.driver_laws.specs.inner.Sound.{is_absent}
use Rattle.driver_laws.specs.inner.Agrees.{drivers}
use Rattle.driver_tables.proofs.TargetLaws.{fixed_few, fixed_is, slot_here_is}
use Rattle.driver_tables.specs.declared.driver.Driver.{Driver}
use Rattle.driver_tables.specs.inner.Targets.{slot_here_in}
use Rattle.driver_pass.specs.declared.stages.Aside.{Aside}
use Rattle.driver_pass.specs.declared.stages.Aside.TheVariants as asides
use Rattle.driver_pass.specs.declared.stages.Taken.{Taken}
use Rattle.driver_pass.specs.inner.Dues.{due_in}
use Rattle.driver_pass.specs.inner.Viewed.{is_sealing, PassView}
use Rattle.driver_reclaim.specs.inner.Ready.{CanGo, CanStep, HasFreeSlots, Ready}
use Rattle.driver_reclaim.specs.inner.Tried.{StartsAside}
use Rattle.driver_reclaim.proofs.PassLaws.{can_be_due, due_is, due_leaving}
use Rattle.driver_reclaim.proofs.RowLaws.{array_has_place, array_placed}
use Rattle.driver_reclaim.proofs.SeenLaws.{has_frame}
use Rattle.driver_reclaim.proofs.StageLaws.{to_leave}

there : (p : Place) → is_here p ≡ true → is_absent p ≡ false
there (Here f) h = refl
there p h = cc

module _ (made : Making) (j : JobView) (past : List Entry) (v : PassView) (d : Driver) (m : Parts) (r : Ready made j past v d m) where
  -- a slot whose page is here has its frame by the tables
  framed : (slot : VaSlot) → IsPlaced d.states.counts (va_page slot.va) → is_here (place past (va_page slot.va)) ≡ true
      → (at : SlotAt) × (slot_here_in d slot ≡ Some at)
  framed slot placed here =
      let by = has_frame past slot here in (by.0, slot_here_is (drivers j) j d past r.agrees.shows slot placed ∙ by.1)

  free_slots : HasFreeSlots d
  free_slots = record {
    placed = placed;
    here = λ s ours free. framed s (placed s ours free) (r.agrees.shows.slots.here s ours free);
  }
    where
      placed : (s : VaSlot) → is_ours d.slots s ≡ true → is_out d.slots s ≡ false → IsPlaced d.states.counts (va_page s.va)
      placed s ours free =
          array_placed made j past d m r.agrees s.va
          (both_true (nat_lt s.va (vas_made past)) _ (sym (r.agrees.shows.slots.ours s) ∙ ours)).0

  due_placed : (page : Page) → due_in d (state_of m) v.behind ≡ Some page → IsPlaced d.states.counts page
  due_placed page is =
      r.agrees.shows.placed page
      (there (place past page) (due_leaving made j past v d m r page (sym (due_is made j past v d m r) ∙ is)).here)

  -- the first version array page is here, where one was taken beside the passes
  can_start : (one : Taken) → v.aside ≡ asides.ToGo one → StartsAside d one
  can_start one is = record {
    few = fixed_few (drivers j) j d past r.agrees.shows one.page
        (r.agrees.shows.placed one.page (ap is_absent (to_leave made j past v d m one r is).at));
    placed = zero_placed;
    at = at.0;
    here = ap (slot_here_in d) (fixed_is (drivers j) j d past r.agrees.shows one.page) ∙ at.1;
  }
    where
      zero_placed : IsPlaced d.states.counts (va_page 0)
      zero_placed = array_has_place made j past d m r.agrees 0 (omega arith)

      zero_here : is_here (place past (va_page 0)) ≡ true
      zero_here = r.agrees.sound.arrays.first (r.first one.page (to_leave made j past v d m one r is).going)

      by_kind : (b : Bool) (x y : ℕ) → (at : SlotAt) × (slot_here_in d (if b then record { va = 0; index = x } else record {
        va =
            0;
        index = y;
      }) ≡ Some at)
      by_kind true x y = framed (record { va = 0; index = x }) zero_placed zero_here
      by_kind false x y = framed (record { va = 0; index = y }) zero_placed zero_here

      at : (at : SlotAt) × (slot_here_in d (fixed_slot j one.page) ≡ Some at)
      at = by_kind (is_va_page one.page) _ _

  pub can_step : is_sealing v ≡ false → CanStep v d m
  can_step idle = record {
    idle = idle;
    whole = r.whole;
    due = can_be_due made j past v d m r;
    placed = due_placed;
    aside = by_aside v.aside refl;
    slots = free_slots;
  }
    where
      by_aside : (x : Aside) → v.aside ≡ x → CanGo d x
      by_aside (asides.ToGo t) is = can_start t is
      by_aside asides.None is = tt
      by_aside (asides.Going t) is = tt
