-- Where tables and machine stand for the same entries, what a fault step for a page asks of them is there.
use Rattle.std.proofs.Common.{◌≡◌, ℕ, ◌+◌, ◌-◌, ◌<◌, Bool, true, false, if◌then◌else◌, refl, sym, ap, subst}
use Rattle.std.proofs.Common.{◌∙◌, List, Some, None, length, arith}
use Rattle.std.proofs.lemmas.Bool.{false≢true, ltb-true}
use Rattle.sgx_rules.specs.declared.entries.Entry.{Entry}
use Rattle.sgx_types.specs.declared.names.Page.{Page}
use Rattle.sgx_types.specs.declared.names.VaSlot.{VaSlot}
use Rattle.sgx_types.specs.Making.{Making}
use Rattle.sgx_types.specs.Pages.{is_own_page, is_va_page, secs_page, va_page}
use Rattle.sgx_rules.specs.Frames.{content, least_free, vas_made}
use Rattle.sgx_rules.specs.Starts.{open_start}
use Rattle.job_grammar.specs.Jobs.{JobView}
use Rattle.driver_list.specs.declared.page_states.PageState.{PageState}
use Rattle.driver_list.specs.declared.page_states.PageState.TheVariants as states
use Rattle.driver_list.specs.inner.Places.{IsPlaced}
use Rattle.driver_list.specs.inner.States.{state_of as page_state}
use Rattle.sgx_machine.specs.inner.Parts.{Parts}
use Rattle.driver_rules.specs.Places.{Absent, Away, Here, is_here, Leaving, Loading, Place, frame_here, place}
use Rattle.driver_rules.specs.Targets.{at_frame, slot_here, target_by, target_from}
use Rattle.driver_rules.specs.inner.Slotted.{fixed_slot}
use Rattle.driver_rules.specs.Turns.{fetch, fetch_by}
use Rattle.driver_laws.specs.inner.Agrees.{drivers, Keeping}
use Rattle.driver_laws.specs.inner.Sound.{is_absent, IsSound, slot_at, slot_of}
use Rattle.driver_laws.proofs.OwnLaws.{FetchIs, IsAsk, target_is as target_asked}
use Rattle.driver_tables.specs.declared.driver.Driver.{Driver}
use Rattle.driver_tables.specs.inner.Tables.{ShowsTables, place_in}
use Rattle.driver_tables.specs.inner.Targets.{slot_here_in, target_in}
use Rattle.driver_tables.proofs.TargetLaws.{array_of, secs_of, slot_here_is, target_is}
use Rattle.driver_tables.specs.inner.Agrees.{Agrees}
use Rattle.driver_faults.specs.inner.Resolving.{CanResolve, asked_by, asked_in}

-- ---- the page that is asked for

-- the page that is brought back first has its place
pub target_placed : (k : Keeping) (j : JobView) (d : Driver) (past : List Entry) → ShowsTables k j d past → (page : Page) (slot : VaSlot)
    → IsSound past → IsPlaced d.states.counts page → place past page ≡ Away slot
    → IsPlaced d.states.counts (target_by past page (Away slot))
target_placed k j d past t page slot sound placed at = by_own (is_own_page page) refl
  where
    by_array : (c : Bool) → IsPlaced d.states.counts (if c then page else va_page slot.va)
    by_array true = placed
    by_array false = array_of k j d past t page slot sound at

    by_secs : (b : Bool) → is_own_page page ≡ true
        → IsPlaced d.states.counts
        (if b then (if is_here (place past (va_page slot.va)) then page else va_page slot.va) else secs_page page.enclave)
    by_secs true own = by_array (is_here (place past (va_page slot.va)))
    by_secs false own = secs_of k j d past t page own (ap is_absent at)

    by_own : (b : Bool) → is_own_page page ≡ b → IsPlaced d.states.counts (if b then target_from past page slot else page)
    by_own true own = by_secs (is_here (place past (secs_page page.enclave))) own
    by_own false other = placed

-- ---- a fault step

module _ (made : Making) (j : JobView) (past : List Entry) (d : Driver) (m : Parts) (r : Agrees made j past d m) where
  -- where a SECS or a version array page is away, its slot is in the first version array page, which is here
  fixed_here : (g : Page) (slot : VaSlot) → is_own_page g ≡ false → place past g ≡ Away slot → is_here (place past (va_page slot.va)) ≡ true
  fixed_here g slot other at =
      ap (λ n. is_here (place past (va_page n))) (ap (λ (s : VaSlot). s.va) its ∙ first (is_va_page g)) ∙ r.sound.arrays.first some
    where
      mine : slot_of past g ≡ Some slot
      mine = ap (slot_at (open_start past)) at

      its : slot ≡ fixed_slot j g
      its = (r.fixed g slot mine).fixed other

      in_first : ℕ → VaSlot
      in_first n = record { va = 0; index = n }

      first : (b : Bool) → (if b then in_first (length j.enclaves + g.number) else in_first (g.enclave - 1)).va ≡ 0
      first true = refl
      first false = refl

      some : 0 < vas_made past
      some =
          let low : slot.va < vas_made past = ltb-true slot.va (vas_made past) (r.shows.slots.placed g slot mine) in omega (arith, low)

  -- the slot of a page that is asked for is in a version array page that is here
  ask_here : (g : Page) (slot : VaSlot) → FetchIs j past (fetch j.epc past g) → place past g ≡ Away slot
      → is_here (place past (va_page slot.va)) ≡ true
  ask_here g slot needs at = by_own (is_own_page g) refl
    where
      asks : IsAsk j past g (slot_here past slot) (least_free j.epc (content past))
      asks = subst (λ p. FetchIs j past (fetch_by j.epc past g p)) at needs

      same : (s : VaSlot) → Away s ≡ Away slot → s ≡ slot
      same s h = cc

      by_own : (b : Bool) → is_own_page g ≡ b → is_here (place past (va_page slot.va)) ≡ true
      by_own true own =
          subst (λ (s : VaSlot). is_here (place past (va_page s.va)) ≡ true) (same asks.away (sym asks.at ∙ at)) (asks.array own)
      by_own false other = fixed_here g slot other at

  found_here : (slot : VaSlot) → IsPlaced d.states.counts (va_page slot.va) → is_here (place past (va_page slot.va)) ≡ true
      → slot_here_in d slot ≡ None → ⊥
  found_here slot placed here none =
      by_place (place past (va_page slot.va)) here (sym (slot_here_is (drivers j) j d past r.shows slot placed) ∙ none)
    where
      by_place : (p : Place) → is_here p ≡ true → at_frame slot.index (frame_here p) ≡ None → ⊥
      by_place (Here n) h k = cc
      by_place Absent h k = absurd (false≢true h)
      by_place (Leaving n) h k = absurd (false≢true h)
      by_place (Loading n t) h k = absurd (false≢true h)
      by_place (Away t) h k = absurd (false≢true h)

  module _ (page : Page) (here : IsPlaced d.states.counts page) where
    place_is : (s : PageState) → page_state d.states page ≡ s → place past page ≡ place_in s
    place_is s is = sym (r.shows.states page here) ∙ ap place_in is

    target_same : (slot : VaSlot) → page_state d.states page ≡ states.Away slot
        → target_by past page (Away slot) ≡ target_in d page slot
    target_same slot is =
        let at : place past page ≡ Away slot = place_is (states.Away slot) is in
        sym (target_is (drivers j) j d past r.shows page slot r.sound at ∙ ap (target_by past page) at)

    asked_placed : IsPlaced d.states.counts (asked_in d page)
    asked_placed = by_state (page_state d.states page) refl
      where
        by_state : (s : PageState) → page_state d.states page ≡ s → IsPlaced d.states.counts (asked_by d page s)
        by_state (states.Away slot) is =
            subst (IsPlaced d.states.counts) (target_same slot is)
            (target_placed (drivers j) j d past r.shows page slot r.sound here (place_is (states.Away slot) is))
        by_state states.Absent is = here
        by_state (states.Here f) is = here
        by_state (states.Leaving f) is = here
        by_state (states.Loading f slot) is = here
        by_state (states.Lost slot) is = here

    -- the page that is asked for, where it is away, has what it needs here
    asked_needs : (slot : VaSlot) → page_state d.states (asked_in d page) ≡ states.Away slot
        → FetchIs j past (fetch j.epc past (asked_in d page))
    asked_needs slot = by_state (page_state d.states page) refl
      where
        by_state : (s : PageState) → page_state d.states page ≡ s → page_state d.states (asked_by d page s) ≡ states.Away slot
            → FetchIs j past (fetch j.epc past (asked_by d page s))
        by_state (states.Away t) is away =
            subst (λ g. FetchIs j past (fetch j.epc past g)) (target_same t is) (target_asked j past page t (place_is (states.Away t) is))
        by_state states.Absent is away = absurd (none (sym is ∙ away))
          where
            none : states.Absent ≡ states.Away slot → ⊥
            none k = cc
        by_state (states.Here f) is away = absurd (none (sym is ∙ away))
          where
            none : states.Here f ≡ states.Away slot → ⊥
            none k = cc
        by_state (states.Leaving f) is away = absurd (none (sym is ∙ away))
          where
            none : states.Leaving f ≡ states.Away slot → ⊥
            none k = cc
        by_state (states.Loading f t) is away = absurd (none (sym is ∙ away))
          where
            none : states.Loading f t ≡ states.Away slot → ⊥
            none k = cc
        by_state (states.Lost t) is away = absurd (none (sym is ∙ away))
          where
            none : states.Lost t ≡ states.Away slot → ⊥
            none k = cc

    asked_at : (slot : VaSlot) → page_state d.states (asked_in d page) ≡ states.Away slot → place past (asked_in d page) ≡ Away slot
    asked_at slot is = sym (r.shows.states (asked_in d page) asked_placed) ∙ ap place_in is

    asked_array : (slot : VaSlot) → page_state d.states (asked_in d page) ≡ states.Away slot → IsPlaced d.states.counts (va_page slot.va)
    asked_array slot is = array_of (drivers j) j d past r.shows (asked_in d page) slot r.sound (asked_at slot is)

    -- a fault step for a page that has its place can be made
    pub can_resolve : CanResolve d page
    can_resolve = record {
      ask = record {
        placed = here;
        secs = λ slot is own. secs_of (drivers j) j d past r.shows page own (ap is_absent (place_is (states.Away slot) is));
        array = λ slot is own. array_of (drivers j) j d past r.shows page slot r.sound (place_is (states.Away slot) is);
      };
      asked = asked_placed;
      slot = asked_array;
      here = λ slot is.
          found_here slot (asked_array slot is) (ask_here (asked_in d page) slot (asked_needs slot is) (asked_at slot is));
    }
