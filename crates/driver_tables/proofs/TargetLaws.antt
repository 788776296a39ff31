-- The tables tell the page that is brought back first, and the slots of pages, as the rules do.
use Rattle.std.proofs.Common.{◌≡◌, ℕ, zero, suc, ◌+◌, ◌<◌, ◌≤◌, ◌^◌, ◌==◌, ◌-◌, ◌&&◌, nat_le, nat_lt, List, if◌then◌else◌, Bool}
use Rattle.std.proofs.Common.{true, false, length, refl, sym, ap, ◌∙◌, arith}
use Rattle.std.proofs.lemmas.Bool.{eqb-true, false≢true, lt-ltb, not-true}
use Rattle.sgx_rules.specs.declared.entries.Entry.{Entry}
use Rattle.sgx_types.specs.declared.names.Page.{Page}
use Rattle.sgx_types.specs.declared.names.VaSlot.{VaSlot}
use Rattle.sgx_types.specs.declared.names.TheConstants.{SECS_NUMBER}
use Rattle.sgx_types.specs.Pages.{is_own_page, is_secs_page, is_va_page, secs_page, va_page}
use Rattle.sgx_rules.specs.Frames.{vas_made}
use Rattle.sgx_rules.specs.Starts.{open_start}
use Rattle.job_grammar.specs.Jobs.{JobView, va_pages}
use Rattle.driver_list.specs.declared.page_states.PageState.{PageState}
use Rattle.driver_list.specs.declared.page_states.PageState.TheVariants as states
use Rattle.driver_list.specs.inner.Places.{IsPlaced}
use Rattle.driver_list.specs.inner.States.{state_of}
use Rattle.driver_list.proofs.PlaceLaws.{own_low, secs_placed}
use Rattle.driver_slots.specs.inner.Keeper.{is_ours}
use Rattle.driver_rules.specs.inner.Slotted.{fixed_count, fixed_slot}
use Rattle.driver_rules.specs.Places.{Away, frame_here, is_here, place}
use Rattle.driver_rules.specs.Targets.{at_frame, slot_here, target_by, target_from}
use Rattle.driver_rules.specs.inner.Targets.{target}
use Rattle.driver_laws.specs.inner.Agrees.{drivers, first_kept, Keeping}
use Rattle.driver_laws.specs.inner.Fixed.{IsInJob}
use Rattle.driver_laws.specs.inner.Sound.{is_absent, IsSound, slot_at}
use Rattle.driver_tables.specs.declared.driver.Driver.{Driver}
use Rattle.driver_tables.specs.inner.Tables.{ShowsTables, place_in}
use Rattle.driver_tables.specs.inner.Targets.{first_in, fixed_in, is_here_in, is_here_state, slot_here_in, slot_in_state, target_in}
use Rattle.driver_tables.specs.inner.Counts.{job_counts, page_counts}
use Rattle.driver_tables.proofs.CountLaws.{count_enclaves, within_enclaves}

here_same : (s : PageState) → is_here_state s ≡ is_here (place_in s)
here_same (states.Here f) = refl
here_same states.Absent = refl
here_same (states.Leaving f) = refl
here_same (states.Loading f slot) = refl
here_same (states.Away slot) = refl
here_same (states.Lost slot) = refl

slot_same : (index : ℕ) (s : PageState) → slot_in_state index s ≡ at_frame index (frame_here (place_in s))
slot_same index (states.Here f) = refl
slot_same index states.Absent = refl
slot_same index (states.Leaving f) = refl
slot_same index (states.Loading f slot) = refl
slot_same index (states.Away slot) = refl
slot_same index (states.Lost slot) = refl

module _ (k : Keeping) (j : JobView) (d : Driver) (past : List Entry) (t : ShowsTables k j d past) where
  -- a page that is here
  pub here_is : (g : Page) → IsPlaced d.states.counts g → is_here_in d.states g ≡ is_here (place past g)
  here_is g placed = here_same (state_of d.states g) ∙ ap is_here (t.states g placed)

  -- a slot by its frame
  pub slot_here_is : (slot : VaSlot) → IsPlaced d.states.counts (va_page slot.va) → slot_here_in d slot ≡ slot_here past slot
  slot_here_is slot placed =
      slot_same slot.index (state_of d.states (va_page slot.va))
      ∙ ap (λ p. at_frame slot.index (frame_here p)) (t.states (va_page slot.va) placed)

  -- the SECS of a TCS or REG page that was added has a place
  pub secs_of : (g : Page) → is_own_page g ≡ true → is_absent (place past g) ≡ false → IsPlaced d.states.counts (secs_page g.enclave)
  secs_of g own there =
      let low = own_low d.states.counts g own (t.placed g there) in
      let within = within_enclaves d.states.counts.own g.enclave g.number low in
      secs_placed d.states.counts g.enclave within.0 within.1

  -- .. and so has the version array page of the slot of a page that is away
  pub array_of : (g : Page) (slot : VaSlot) → IsSound past → place past g ≡ Away slot → IsPlaced d.states.counts (va_page slot.va)
  array_of g slot sound away =
      t.placed (va_page slot.va)
      (not-true (is_absent (place past (va_page slot.va)))
      (sym (sound.made (va_page slot.va)) ∙ t.slots.placed g slot (ap (slot_at (open_start past)) away)))

  -- the page that is brought back first
  pub target_is : (g : Page) (slot : VaSlot) → IsSound past → place past g ≡ Away slot → target_in d g slot ≡ target past g
  target_is g slot sound away = by_kind (is_own_page g) refl ∙ sym (ap (target_by past g) away)
    where
      by_kind : (b : Bool) → is_own_page g ≡ b
          → (if b
          then (if is_here_in d.states (secs_page g.enclave) then (if is_here_in d.states (va_page slot.va) then g else va_page slot.va)
          else secs_page g.enclave)
          else g)
          ≡ (if b then target_from past g slot else g)
      by_kind true own =
          rw (
            here_is (secs_page g.enclave) (secs_of g own (ap is_absent away)),
            here_is (va_page slot.va) (array_of g slot sound away),
          ) refl
      by_kind false own = refl

  -- the slots of SECSs and version array pages, and the first one behind them
  pub fixed_is : (g : Page) → fixed_in d g ≡ fixed_slot j g
  fixed_is g = by_kind (is_va_page g)
    where
      first : ℕ → VaSlot
      first n = record { va = 0; index = n }

      by_kind : (b : Bool) → (if b then first (d.enclaves + g.number) else first (g.enclave - 1))
          ≡ (if b then first (length j.enclaves + g.number) else first (g.enclave - 1))
      by_kind true = ap (λ (n : ℕ). first (n + g.number)) t.enclaves
      by_kind false = refl

  pub first_is : (va : ℕ) → first_in d va ≡ first_kept j va
  first_is va = by_first (va == 0)
    where
      by_first : (b : Bool) → (if b then d.enclaves + d.va_pages else 0) ≡ (if b then length j.enclaves + va_pages j else 0)
      by_first true = let e = t.enclaves in let a = t.arrays in omega (arith, e, a)
      by_first false = refl

  -- there are few of them
  pub fixed_few : (g : Page) → IsPlaced d.states.counts g → is_va_page g ≡ true → d.enclaves + g.number < 2 ^ 16
  fixed_few g placed is =
      let low : g.number < d.states.counts.arrays = placed.array is in
      let same : d.states.counts.arrays ≡ va_pages j = ap (λ c. c.arrays) (t.counts ∙ t.of_job) in
      let arrays = t.arrays in let few = t.few_arrays in let enclaves = t.few_enclaves in omega (arith, low, same, arrays, few, enclaves)

  pub first_few : d.enclaves + d.va_pages ≤ 17
  first_few = let few = t.few_arrays in let enclaves = t.few_enclaves in omega (arith, few, enclaves)

-- a driver's keeper hands none of them out
pub fixed_aside : (j : JobView) (d : Driver) (past : List Entry) (g : Page) → ShowsTables (drivers j) j d past
    → IsPlaced d.states.counts g → is_own_page g ≡ false → is_ours d.slots (fixed_slot j g) ≡ false
fixed_aside j d past g t placed other = by_name (is_va_page g) (g.number == SECS_NUMBER) refl refl
  where
    counts : d.states.counts ≡ job_counts j
    counts = t.counts ∙ t.of_job

    high : (n : ℕ) → n < fixed_count j → nat_le (fixed_count j) n ≡ false
    high n low = grind (arith, low)

    both : (a b c : Bool) → b ≡ false → (a && (b && c)) ≡ false
    both true true c h = absurd (false≢true (sym h))
    both true false c h = refl
    both false b c h = refl

    none : (n : ℕ) → n < fixed_count j → is_ours d.slots (record { va = 0; index = n }) ≡ false
    none n low =
        t.slots.ours (record { va = 0; index = n }) ∙ both (nat_lt 0 (vas_made past)) (nat_le (fixed_count j) n) (nat_lt n 512) (high n low)

    by_name : (va last : Bool) → is_va_page g ≡ va → (g.number == SECS_NUMBER) ≡ last → is_ours d.slots (fixed_slot j g) ≡ false
    by_name true last v l =
        let low : g.number < d.states.counts.arrays = placed.array v in
        let same : d.states.counts.arrays ≡ va_pages j = ap (λ c. c.arrays) counts in
        ap (is_ours d.slots) (rw v refl) ∙ none (length j.enclaves + g.number) (omega (arith, low, same))
    by_name false true v l =
        let low : g.enclave ≤ length d.states.counts.own = placed.secs (rw (v, l) refl) in
        let same : length d.states.counts.own ≡ length (page_counts j) = ap (λ c. length c.own) counts in
        let all = count_enclaves j in
        let arrays : 1 ≤ va_pages j = omega arith in
        ap (is_ours d.slots) (rw v refl) ∙ none (g.enclave - 1) (omega (arith, low, same, all, arrays))
    by_name false false v l = absurd (false≢true (sym other ∙ rw (v, l) refl))

-- a SECS or a version array page with a place is one of the job
pub in_job : (k : Keeping) (j : JobView) (d : Driver) (past : List Entry) (g : Page) → ShowsTables k j d past → IsPlaced d.states.counts g
    → is_own_page g ≡ false → IsInJob j g
in_job k j d past g t placed other = record {
  array = λ va. let low : g.number < d.states.counts.arrays = placed.array va in omega (arith, low, ap (λ c. c.arrays) counts);
  least = λ va. some g.enclave va;
  secs = λ va. let low : g.enclave ≤ length d.states.counts.own = placed.secs (is_secs va (last va)) in
      omega (arith, low, ap (λ c. length c.own) counts, count_enclaves j);
  number = λ va. eqb-true g.number SECS_NUMBER (last va);
}
  where
    counts : d.states.counts ≡ job_counts j
    counts = t.counts ∙ t.of_job

    some : (e : ℕ) → (e == 0) ≡ false → 1 ≤ e
    some zero h = absurd (false≢true (sym h))
    some (suc e) h = omega arith

    last : is_va_page g ≡ false → (g.number == SECS_NUMBER) ≡ true
    last va = by_test (g.number == SECS_NUMBER) refl
      where
        by_test : (b : Bool) → (g.number == SECS_NUMBER) ≡ b → (g.number == SECS_NUMBER) ≡ true
        by_test true is = is
        by_test false is = absurd (false≢true (sym other ∙ rw (va, is) refl))

    is_secs : is_va_page g ≡ false → (g.number == SECS_NUMBER) ≡ true → is_secs_page g ≡ true
    is_secs va is = rw (va, is) refl

-- the slot of such a page is one of 512
pub fixed_within : (k : Keeping) (j : JobView) (d : Driver) (past : List Entry) (g : Page) → ShowsTables k j d past
    → IsPlaced d.states.counts g → is_own_page g ≡ false → nat_lt (fixed_slot j g).index 512 ≡ true
fixed_within k j d past g t placed other = by_kind (is_va_page g) refl
  where
    first : ℕ → VaSlot
    first n = record { va = 0; index = n }

    by_kind : (b : Bool) → is_va_page g ≡ b
        → nat_lt (if b then first (length j.enclaves + g.number) else first (g.enclave - 1)).index 512 ≡ true
    by_kind true va =
        let low : g.number < va_pages j = (in_job k j d past g t placed other).array va in
        let enclaves = t.enclaves in let few = t.few_enclaves in let arrays = t.arrays in let few_arrays = t.few_arrays in
        lt-ltb (length j.enclaves + g.number) 512 (omega (arith, low, enclaves, few, arrays, few_arrays))
    by_kind false va =
        let low : g.enclave ≤ length j.enclaves = (in_job k j d past g t placed other).secs va in
        let enclaves = t.enclaves in let few = t.few_enclaves in lt-ltb (g.enclave - 1) 512 (omega (arith, low, enclaves, few))
