-- What is found of an event by the tables is what the rules say of it.
use Rattle.std.proofs.Common.{◌≡◌, ℕ, ◌<◌, ◌≤◌, ◌&&◌, not, if◌then◌else◌, Bool, true, false, List, Option, Some, length, refl, sym, ap}
use Rattle.std.proofs.Common.{◌∙◌, arith, nat_lt}
use Rattle.std.proofs.lemmas.Bool.{lt-ltb}
use Rattle.std.proofs.lemmas.Option.{none-some, same_Some}
use Rattle.sgx_types.specs.declared.names.Actor.TheVariants as actors
use Rattle.sgx_rules.specs.declared.entries.Entry.{Entry}
use Rattle.sgx_rules.specs.declared.entries.Event.{Event}
use Rattle.sgx_types.specs.declared.names.Cpu.{Cpu}
use Rattle.sgx_types.specs.declared.names.Page.{Page}
use Rattle.sgx_types.specs.declared.names.VaSlot.{VaSlot}
use Rattle.sgx_types.specs.Pages.{is_own_page, secs_page, va_page}
use Rattle.sgx_rules.specs.Frames.{content, least_free}
use Rattle.job_grammar.specs.Jobs.{JobView}
use Rattle.driver_list.specs.inner.Places.{IsPlaced}
use Rattle.driver_list.specs.inner.States.{state_of as page_state}
use Rattle.driver_list.specs.declared.page_states.PageState.{PageState}
use Rattle.driver_list.specs.declared.page_states.PageState.TheVariants as states
use Rattle.machine_laws.specs.inner.Columns.{FrameColumns}
use Rattle.sgx_machine.specs.inner.Parts.{Parts, state_of}
use Rattle.driver_rules.specs.inner.Decided.{is_actors, is_fetch, is_next, keeps_script}
use Rattle.driver_rules.specs.Dues.{Asks, Due}
use Rattle.driver_rules.specs.Places.{Away, place}
use Rattle.driver_rules.specs.Stops.{is_spent}
use Rattle.driver_rules.specs.Targets.{slot_here, target_by}
use Rattle.driver_rules.specs.Turns.{builder_due, cpu_due, fetch, fetch_by, fetches}
use Rattle.driver_laws.specs.inner.Agrees.{Keeping}
use Rattle.driver_laws.specs.inner.Sound.{is_absent}
use Rattle.driver_tables.specs.declared.driver.Driver.{Driver}
use Rattle.driver_tables.specs.inner.Tables.{place_in}
use Rattle.driver_tables.specs.inner.Targets.{is_here_in, slot_here_in, target_in}
use Rattle.driver_tables.proofs.TargetLaws.{array_of, secs_of, slot_here_is, target_is}
use Rattle.due_tables.specs.declared.dues.BuilderDue.{BuilderDue}
use Rattle.due_tables.specs.declared.dues.BuilderDue.TheVariants as builders
use Rattle.due_tables.specs.declared.dues.CpuDue.{CpuDue}
use Rattle.due_tables.specs.declared.dues.CpuDue.TheVariants as dues
use Rattle.due_tables.specs.declared.turns.Turns.{Turns}
use Rattle.due_tables.specs.inner.Due.{IsShown, building_in, due_in}
use Rattle.due_tables.specs.inner.Shown.{ShowsTurns}
use Rattle.due_tables.specs.inner.TcsTurns.{has_place}
use Rattle.due_tables.proofs.LookLaws.{absent_is, places_same}
use Rattle.due_tables.proofs.RowLaws.{placed_row}
use Rattle.audit_dues.specs.inner.Next.{CanFetch, built_by, fetch_by as told_by, fetch_from}
use Rattle.audit_dues.specs.inner.Next.{fetch_seen, next_by, slot_by, slot_if, step_for}

module _ (k : Keeping) (j : JobView) (past : List Entry) (d : Driver) (m : Parts) (t : Turns) (a : IsShown k j past d m)
    (s : ShowsTurns j past t) where
  abbrev pub free : Option ℕ
  free = least_free (state_of m).frames (state_of m).content

  -- the least free frame of the machine is that of the entries
  least_is : free ≡ least_free j.epc (content past)
  least_is =
      ap (λ n. least_free n (state_of m).content) a.frames
      ∙ ap (λ (f : FrameColumns). least_free j.epc f.content) a.columns.frames

  -- ---- the page that has to be back first

  away_is : (g : Page) (slot : VaSlot) → IsPlaced d.states.counts g → slot_by (page_state d.states g) ≡ Some slot → place past g ≡ Away slot
  away_is g slot placed h = sym (a.shows.states g placed) ∙ by_state (page_state d.states g) h
    where
      by_state : (x : PageState) → slot_by x ≡ Some slot → place_in x ≡ Away slot
      by_state states.Absent h = absurd (none-some slot h)
      by_state (states.Here f) h = absurd (none-some slot h)
      by_state (states.Leaving f) h = absurd (none-some slot h)
      by_state (states.Loading f at) h = absurd (none-some slot h)
      by_state (states.Away at) h = ap Away (same_Some at slot h)
      by_state (states.Lost at) h = ap Away (same_Some at slot h)

  -- it has its place
  target_placed : (g : Page) (slot : VaSlot) → IsPlaced d.states.counts g → place past g ≡ Away slot
      → IsPlaced d.states.counts (target_in d g slot)
  target_placed g slot placed at = by_own (is_own_page g) refl
    where
      by_array : (b : Bool) → IsPlaced d.states.counts (if b then g else va_page slot.va)
      by_array true = placed
      by_array false = array_of k j d past a.shows g slot a.sound at

      by_secs : (b : Bool) → is_own_page g ≡ true
          → IsPlaced d.states.counts
          (if b then (if is_here_in d.states (va_page slot.va) then g else va_page slot.va) else secs_page g.enclave)
      by_secs true own = by_array (is_here_in d.states (va_page slot.va))
      by_secs false own = secs_of k j d past a.shows g own (ap is_absent at)

      by_own : (b : Bool) → is_own_page g ≡ b
          → IsPlaced d.states.counts
          (if b
          then (if is_here_in d.states (secs_page g.enclave) then (if is_here_in d.states (va_page slot.va) then g else va_page slot.va)
          else secs_page g.enclave)
          else g)
      by_own true own = by_secs (is_here_in d.states (secs_page g.enclave)) own
      by_own false other = placed

  pub can_fetch : CanFetch d t
  can_fetch = record {
    rows = places_same k j past d m t a s;
    secs = λ g slot placed h own. secs_of k j d past a.shows g own (ap is_absent (away_is g slot placed h));
    array = λ g slot placed h. array_of k j d past a.shows g slot a.sound (away_is g slot placed h);
  }

  -- its first step is told by its state
  step_is : (g : Page) → IsPlaced d.states.counts g → step_for d free g (slot_by (page_state d.states g)) ≡ fetch j.epc past g
  step_is g placed = by_state (page_state d.states g) (a.shows.states g placed)
    where
      asks : (slot : VaSlot) → Away slot ≡ place past g → Asks g (slot_here_in d slot) free ≡ fetch j.epc past g
      asks slot is =
          let found = slot_here_is k j d past a.shows slot (array_of k j d past a.shows g slot a.sound (sym is)) in
          ap (λ at. Asks g at free) found ∙ ap (Asks g (slot_here past slot)) least_is ∙ ap (fetch_by j.epc past g) is

      by_state : (x : PageState) → place_in x ≡ place past g → step_for d free g (slot_by x) ≡ fetch j.epc past g
      by_state states.Absent is = ap (fetch_by j.epc past g) is
      by_state (states.Here f) is = ap (fetch_by j.epc past g) is
      by_state (states.Leaving f) is = ap (fetch_by j.epc past g) is
      by_state (states.Loading f slot) is = ap (fetch_by j.epc past g) is
      by_state (states.Away slot) is = asks slot is
      by_state (states.Lost slot) is = asks slot is

  -- ---- a page that is needed

  fetch_is : (g : Page) (event : Event)
      → told_by g (fetch_seen d t free g) event ≡ is_next (fetches j.epc past g (place past g)) event
  fetch_is g event = by_test (has_place t.tcs g) refl
    where
      outside : (slot : VaSlot) → IsPlaced d.states.counts g → Away slot ≡ place past g
          → told_by g (fetch_from d free g (Some slot)) event ≡ is_next (fetches j.epc past g (place past g)) event
      outside slot placed is =
          let target = target_in d g slot in
          ap (λ x. is_fetch g x event) (step_is target (target_placed g slot placed (sym is)))
          ∙ ap (λ x. is_fetch g (fetch j.epc past x) event)
          (target_is k j d past a.shows g slot a.sound (sym is) ∙ ap (target_by past g) (sym is))
          ∙ ap (λ at. is_next (fetches j.epc past g at) event) is

      by_state : (x : PageState) → IsPlaced d.states.counts g → place_in x ≡ place past g
          → told_by g (fetch_from d free g (slot_by x)) event ≡ is_next (fetches j.epc past g (place past g)) event
      by_state states.Absent placed is = ap (λ at. is_next (fetches j.epc past g at) event) is
      by_state (states.Here f) placed is = ap (λ at. is_next (fetches j.epc past g at) event) is
      by_state (states.Leaving f) placed is = ap (λ at. is_next (fetches j.epc past g at) event) is
      by_state (states.Loading f slot) placed is = ap (λ at. is_next (fetches j.epc past g at) event) is
      by_state (states.Away slot) placed is = outside slot placed is
      by_state (states.Lost slot) placed is = outside slot placed is

      by_test : (b : Bool) → has_place t.tcs g ≡ b
          → told_by g (fetch_from d free g (slot_if b (page_state d.states g))) event
          ≡ is_next (fetches j.epc past g (place past g)) event
      by_test true h =
          let placed = placed_row t.tcs d.states.counts g (places_same k j past d m t a s) h in
          by_state (page_state d.states g) placed (a.shows.states g placed)
      by_test false h = ap (λ at. is_next (fetches j.epc past g at) event) (sym (absent_is k j past d m t a s g h))

  pub next_is : (due : CpuDue) (event : Event) → next_by (fetch_seen d t free) due event ≡ is_next (due_in j past due) event
  next_is dues.Stopped event = refl
  next_is dues.Finished event = refl
  next_is (dues.Waits why) event = refl
  next_is (dues.Ends f) event = refl
  next_is (dues.Makes step) event = refl
  next_is (dues.Reports why page) event = refl
  next_is (dues.Needs page) event = fetch_is page event

pub built_is : (due : BuilderDue) (event : Event) → built_by due event ≡ is_next (building_in due) event
built_is builders.Stopped event = refl
built_is builders.Finished event = refl
built_is (builders.Waits why) event = refl
built_is (builders.Makes action) event = refl

-- ---- the rule Script

module _ (j : JobView) (past : List Entry) (e : Entry) (due : Due) (fresh : is_spent past ≡ false) where
  pub builder_keeps : e.actor ≡ actors.Builder → due ≡ builder_due j past → is_next due e.event ≡ keeps_script j past e
  builder_keeps is same =
      ap (λ x. is_next x e.event) same ∙ sym (ap (λ b. not b && is_actors j past e.actor e.event) fresh
      ∙ ap (λ actor. is_actors j past actor e.event) is)

  pub cpu_keeps : (cpu : Cpu) → e.actor ≡ actors.Cpu cpu → cpu.0 < length j.scripts → due ≡ cpu_due j past cpu.0
      → is_next due e.event ≡ keeps_script j past e
  cpu_keeps cpu is low same =
      ap (λ x. is_next x e.event) same
      ∙ sym (ap (λ b. not b && is_actors j past e.actor e.event) fresh
      ∙ ap (λ actor. is_actors j past actor e.event) is
      ∙ ap (λ b. b && is_next (cpu_due j past cpu.0) e.event) (lt-ltb cpu.0 (length j.scripts) low))

  -- a processor that the job does not have makes none
  pub none_keeps : (cpu : Cpu) → e.actor ≡ actors.Cpu cpu → length j.scripts ≤ cpu.0 → false ≡ keeps_script j past e
  none_keeps cpu is high =
      let beyond : nat_lt cpu.0 (length j.scripts) ≡ false = grind (arith, high) in
      sym (ap (λ b. not b && is_actors j past e.actor e.event) fresh
      ∙ ap (λ actor. is_actors j past actor e.event) is
      ∙ ap (λ b. b && is_next (cpu_due j past cpu.0) e.event) beyond)
