-- What is due besides a pass is by tables and machine what it is by the rules.
use Rattle.std.proofs.Common.{◌≡◌, ℕ, zero, suc, ◌+◌, ◌-◌, ◌<◌, ◌≤◌, ◌==◌, ◌&&◌, ◌||◌, not, nat_le, nat_lt, Bool, true, false}
use Rattle.std.proofs.Common.{if◌then◌else◌, refl, sym, ◌∙◌, ap, subst, List, [], ◌∷◌, Option, Some, None, length, ⊎_elim, arith}
use Rattle.std.proofs.lemmas.Bool.{cases_lt, eq-eqb, eqb-true, false≢true, ltb-true, or_right, not-true}
use Rattle.sgx_types.proofs.CountLaws.{any_below-agrees, any_below-found, any_below-some}
use Rattle.sgx_types.proofs.Pages.{same_pages}
use Rattle.sgx_types.proofs.Truths.{both_true}
use Rattle.sgx_types.specs.Counts.{any_below}
use Rattle.sgx_types.specs.declared.names.Frame.{Frame}
use Rattle.sgx_types.specs.declared.names.Kind.{Kind}
use Rattle.sgx_types.specs.declared.names.Page.{Page}
use Rattle.sgx_types.specs.declared.names.Perm.{Perm}
use Rattle.sgx_types.specs.declared.names.VaSlot.{VaSlot}
use Rattle.sgx_types.specs.declared.names.TheConstants.{SECS_NUMBER}
use Rattle.sgx_types.specs.Making.{Making}
use Rattle.sgx_types.specs.Pages.{is_own_page, is_secs_page, secs_page, va_page}
use Rattle.sgx_rules.specs.declared.entries.Action.TheVariants as actions
use Rattle.sgx_rules.specs.declared.entries.Answer.TheVariants.{Moved}
use Rattle.sgx_rules.specs.declared.entries.Entry.{Entry}
use Rattle.sgx_rules.specs.declared.entries.Event.{Event}
use Rattle.sgx_rules.specs.declared.entries.Event.TheVariants.{Age, Did}
use Rattle.sgx_rules.specs.declared.entries.Look.TheVariants as looks
use Rattle.sgx_types.specs.declared.names.Actor.TheVariants as actors
use Rattle.sgx_rules.specs.Flat.{enclave_sight_of}
use Rattle.sgx_rules.specs.Frames.{children, Content, content, Free, Holds, is_sealing, IsLoading, IsVa, SecsOf, stands, vas_made}
use Rattle.sgx_rules.specs.inner.Enclaves.{created, created_by}
use Rattle.sgx_rules.specs.Slots.{is_of_va, is_slot_busy, is_va_in_use, is_va_of, names_slot, open_slot, slot_of as slot_of_start}
use Rattle.sgx_rules.specs.Slots.{takes_out}
use Rattle.sgx_rules.specs.Starts.{open_start, Start}
use Rattle.sgx_rules.specs.Table.{is_ready, is_va}
use Rattle.sgx_rules.proofs.Busy.{StaysIn}
use Rattle.job_grammar.specs.Jobs.{JobView}
use Rattle.script_rules.specs.Script.{built, is_init_of, is_initialised}
use Rattle.driver_slots.specs.inner.Keeper.{array_at, is_left, is_ours, is_out}
use Rattle.driver_slots.specs.inner.Keeper.{is_full as is_full_in}
use Rattle.driver_list.specs.declared.page_states.PageState.{PageState}
use Rattle.driver_list.specs.declared.page_states.PageState.TheVariants as states
use Rattle.driver_list.specs.inner.Holds.{is_held as is_held_by}
use Rattle.driver_list.specs.inner.Places.{IsPlaced}
use Rattle.driver_list.specs.inner.States.{state_of as page_state}
use Rattle.driver_list.proofs.PlaceLaws.{array_placed, own_low}
use Rattle.machine_laws.specs.inner.Columns.{FrameColumns, slot_of as slot_at}
use Rattle.machine_laws.specs.inner.State.{is_in_use, place_at, State}
use Rattle.machine_laws.proofs.ColumnLaws.{content_is, enclave_is, sealing_is}
use Rattle.sgx_machine.specs.inner.Parts.{Parts, state_of}
use Rattle.driver_rules.specs.Holds.{builder_holds, is_among, is_held, is_held_below}
use Rattle.driver_rules.specs.Needs.{listed}
use Rattle.driver_rules.specs.Places.{Absent, Here, is_here, Place, place}
use Rattle.driver_rules.specs.Spares as spares
use Rattle.driver_rules.specs.Spares.{due_by, due_with, is_alone, is_full, is_spare, least_from, Outs, spare}
use Rattle.driver_rules.specs.Stops.{last_event}
use Rattle.driver_laws.specs.inner.Agrees.{Keeping}
use Rattle.driver_laws.specs.inner.Sound.{is_absent}
use Rattle.driver_laws.proofs.AloneLaws.{started}
use Rattle.driver_laws.proofs.RowLaws.{array_stays}
use Rattle.driver_laws.proofs.StillLaws.{holds_here}
use Rattle.driver_tables.specs.declared.driver.Driver.{Driver}
use Rattle.driver_tables.specs.inner.Counts.{page_counts}
use Rattle.driver_tables.specs.inner.Tables.{place_in}
use Rattle.driver_tables.specs.inner.Targets.{is_here_in}
use Rattle.driver_tables.proofs.BuildLaws.{extended_low}
use Rattle.driver_tables.proofs.CountLaws.{count_enclaves, within_enclaves}
use Rattle.driver_tables.proofs.TargetLaws.{here_is, secs_of}
use Rattle.driver_pass.specs.declared.stages.Behind.{Behind}
use Rattle.driver_pass.specs.declared.stages.Behind.TheVariants as last
use Rattle.driver_pass.specs.inner.Dues.{CanBeDue, due_in, HasAllSlots, HasSecs, is_alone_in, is_spare_in, is_spare_state, ShowsOuts}
use Rattle.driver_pass.specs.inner.Dues.{spare_in}
use Rattle.driver_tables.specs.inner.Tells.{Tells}
use Rattle.driver_pass.specs.inner.Standing.{behind_of, IsOut, StandsAt}
use Rattle.driver_pass.specs.inner.Viewed.{PassView}
use Rattle.driver_pass.proofs.LeastLaws.{least_more, least_none, least_same}

-- ---- tests and numbers

-- two tests that pass where the other does are one
same_tests : (b c : Bool) → (b ≡ true → c ≡ true) → (c ≡ true → b ≡ true) → b ≡ c
same_tests true c to from = sym (to refl)
same_tests false true to from = from refl
same_tests false false to from = refl

or_none : (b c : Bool) → c ≡ false → (b || c) ≡ b
or_none true c h = refl
or_none false c h = h

positive : (n : ℕ) → 1 ≤ n → (n == 0) ≡ false
positive n low = grind (arith, low)

-- tests that agree below a number find the same there
any_same : (p q : ℕ → Bool) (n : ℕ) → ((i : ℕ) → i < n → p i ≡ q i) → any_below p n ≡ any_below q n
unfolding any_below
any_same p q zero h = refl
any_same p q (suc n) h = rw (h n (omega arith), any_same p q n (λ i low. h i (omega (arith, low)))) refl

-- ---- enclaves that are initialised

ready_initialised : (past : List Entry) (e : ℕ) → is_ready (enclave_sight_of (created past e)) ≡ true → is_initialised past e ≡ true
ready_initialised [] e h = cc
ready_initialised (x ∷ past) e h = by_event x.event h (ready_initialised past e)
  where
    by_event : (ev : Event) → is_ready (enclave_sight_of (created_by ev e (created past e))) ≡ true
        → (is_ready (enclave_sight_of (created past e)) ≡ true → is_initialised past e ≡ true)
        → (is_init_of e ev || is_initialised past e) ≡ true
    by_event (Did (actions.Create enclave f base size) answer) ready before = by_test (e == enclave) ready
      where
        by_test : (b : Bool)
            → is_ready (enclave_sight_of (if b then Some (record { base = base; size = size; is_init = false }) else created past e)) ≡ true
            → is_initialised past e ≡ true
        by_test true is = absurd (false≢true is)
        by_test false is = before is
    by_event (Did (actions.Init enclave expect) answer) ready before = by_test (e == enclave) refl ready
      where
        by_test : (b : Bool) → (e == enclave) ≡ b
            → is_ready (enclave_sight_of (created_by (Did (actions.Init enclave expect) answer) e (created past e))) ≡ true
            → ((enclave == e) || is_initialised past e) ≡ true
        by_test true same is = rw (eq-eqb enclave e (sym (eqb-true e enclave same))) refl
        by_test false same is = or_right (enclave == e) (is_initialised past e) (before (rw same at is))
    by_event _ ready before = before ready

-- ---- a version array page in its frame

array_there : (c : Content) (va : ℕ) → va < 10
    → ((page : Page) (kind : Kind) (perm : Perm) → c ≡ Holds page kind perm → is_own_page page ≡ true) → stands c (va_page va) ≡ true
    → c ≡ IsVa va
array_there (IsVa n) va few held h = ap (λ (g : Page). IsVa g.number) (same_pages (va_page n) (va_page va) h)
array_there (SecsOf e) va few held h =
    let same : SECS_NUMBER ≡ va = ap (λ (g : Page). g.number) (same_pages (secs_page e) (va_page va) h) in
    absurd (omega (arith, few, same))
array_there (Holds page kind perm) va few held h =
    absurd (false≢true (ap is_own_page (sym (same_pages page (va_page va) h)) ∙ held page kind perm refl))
array_there Free va few held h = cc
array_there (IsLoading page) va few held h = cc

module _ (k : Keeping) (made : Making) (j : JobView) (past : List Entry) (d : Driver) (m : Parts) (a : Tells k made j past d m) where
  abbrev s : State
  s = state_of m

  frames_are : s.frames ≡ j.epc
  frames_are = ap (λ (x : Making). x.frames) a.follows.shape.making ∙ a.frames

  -- ---- which version array pages there are

  arrays_are : d.states.counts.arrays ≡ d.va_pages
  arrays_are = ap (λ c. c.arrays) (a.shows.counts ∙ a.shows.of_job) ∙ sym a.shows.arrays

  array_place : (va : ℕ) → va < d.va_pages → IsPlaced d.states.counts (va_page va)
  array_place va low = array_placed d.states.counts va (let e = arrays_are in omega (arith, low, e))

  array_made : (va : ℕ) → nat_lt va (vas_made past) ≡ not (is_absent (place past (va_page va)))
  array_made va = a.sound.made (va_page va)

  -- one that is here was made
  here_made : (va n : ℕ) → place past (va_page va) ≡ Here n → nat_lt va (vas_made past) ≡ true
  here_made va n here = array_made va ∙ ap (λ p. not (is_absent p)) here

  made_few : vas_made past ≤ d.va_pages
  made_few = ⊎_elim
      (λ beyond.
      let there : is_absent (place past (va_page d.va_pages)) ≡ false = not-true (is_absent (place past (va_page d.va_pages)))
      (sym (array_made d.va_pages) ∙ lower d.va_pages (vas_made past) beyond) in
      let placed : IsPlaced d.states.counts (va_page d.va_pages) = a.shows.placed (va_page d.va_pages) there in
      let low : d.va_pages < d.states.counts.arrays = placed.array refl in
      absurd (let e = arrays_are in omega (arith, low, e)))
      (λ low. low) (cases_lt d.va_pages (vas_made past))
    where
      lower : (x y : ℕ) → x < y → nat_lt x y ≡ true
      lower x y low = grind (arith, low)

  -- ---- a SECS that is alone

  initialised_is : (e : ℕ) → is_ready (enclave_sight_of (s.enclaves e)) ≡ is_initialised past e
  initialised_is e =
      same_tests (is_ready (enclave_sight_of (s.enclaves e))) (is_initialised past e)
      (λ ready. ready_initialised past e (sym same ∙ ready))
      (λ init. same ∙ a.inits e init)
    where
      same : is_ready (enclave_sight_of (s.enclaves e)) ≡ is_ready (enclave_sight_of (created past e))
      same = ap (λ o. is_ready (enclave_sight_of o)) (enclave_is a.follows.shape.columns e)

  children_are : (e : ℕ) → children s.frames s.content e ≡ children j.epc (content past) e
  children_are e =
      ap (λ held. children s.frames held e) (ap (λ (c : FrameColumns). c.content) a.follows.shape.columns.frames)
      ∙ ap (λ n. children n (content past) e) frames_are

  alone_is : (g : Page) → is_own_page g ≡ true → is_absent (place past g) ≡ false → is_alone_in d s g.enclave ≡ is_alone j past g.enclave
  alone_is g own there =
      ap (λ b. b && is_here_in d.states (secs_page e) && (children s.frames s.content e == 0)) (initialised_is e)
      ∙ ap (λ b. is_initialised past e && b && (children s.frames s.content e == 0))
      (here_is k j d past a.shows (secs_page e) (secs_of k j d past a.shows g own there))
      ∙ ap (λ n. is_initialised past e && is_here (place past (secs_page e)) && (n == 0)) (children_are e)
    where
      e : ℕ
      e = g.enclave

  -- ---- a version array page that is here

  module _ (va : ℕ) (low : va < d.va_pages) (f : Frame) (here : place past (va_page va) ≡ Here f.0) where
    held_there : content past f.0 ≡ IsVa va
    held_there =
        array_there (content past f.0) va (let few = a.shows.few_arrays in omega (arith, low, few)) (a.sound.held f.0)
        (holds_here past (va_page va) (Here f.0) f.0 a.sound here (eq-eqb f.0 f.0 refl))

    array_in : s.content f.0 ≡ IsVa va
    array_in = content_is a.follows.shape.columns f.0 ∙ held_there

    rests : StaysIn past va
    rests = array_stays past va a.sound a.pages.sealing (ap is_here here)

    stays : s.is_sealing f.0 ≡ false
    stays =
        sealing_is a.follows.shape.columns f.0
        ∙ sym (ap (λ c. is_va_of c va && is_sealing past f.0) held_there ∙ ap (λ b. b && is_sealing past f.0) (eq-eqb va va refl))
        ∙ rests f.0

    -- a slot is named in the machine where an open start names it by the entries
    named_is : (index : ℕ) → index < 512
        → s.is_slot_named (place_at f.0 index) ≡ any_below (λ n. names_slot (open_slot past n) (slot_at va index)) j.epc
    named_is index few =
        sym (ap (λ c. is_va c && (s.is_slot_named (place_at f.0 index) || s.is_sealing f.0)) array_in
        ∙ or_none (s.is_slot_named (place_at f.0 index)) (s.is_sealing f.0) stays)
        ∙ a.follows.shape.slots_busy f.0 va index array_in few
        ∙ ap (λ n. is_slot_busy n past (slot_at va index)) frames_are
        ∙ any_below-agrees (λ n. names_slot (open_slot past n) (slot_at va index) || takes_out past va n)
        (λ n. names_slot (open_slot past n) (slot_at va index))
        (λ n. or_none (names_slot (open_slot past n) (slot_at va index)) (takes_out past va n) (rests n)) j.epc

    of_named : (o : Option VaSlot) (index : ℕ) → names_slot o (slot_at va index) ≡ true → is_of_va o va ≡ true
    of_named None index h = h
    of_named (Some slot) index h = (both_true (slot.va == va) (slot.index == index) h).0

    to_entries : any_below (λ index. s.is_slot_named (place_at f.0 index)) 512 ≡ true → is_va_in_use j.epc past va ≡ true
    to_entries is =
        let found = any_below-found (λ index. s.is_slot_named (place_at f.0 index)) 512 is in
        let names = any_below-found (λ n. names_slot (open_slot past n) (slot_at va found.0)) j.epc
        (sym (named_is found.0 found.1) ∙ found.2) in
        any_below-some (λ n. is_of_va (open_slot past n) va) j.epc names.0 names.1 (of_named (open_slot past names.0) found.0 names.2)

    to_machine : is_va_in_use j.epc past va ≡ true → any_below (λ index. s.is_slot_named (place_at f.0 index)) 512 ≡ true
    to_machine is =
        let found = any_below-found (λ n. is_of_va (open_slot past n) va) j.epc is in
        by_start found.0 found.1 (open_start past found.0) refl found.2
      where
        by_start : (n : ℕ) → n < j.epc → (o : Option Start) → open_start past n ≡ o → is_of_va (slot_of_start o) va ≡ true
            → any_below (λ index. s.is_slot_named (place_at f.0 index)) 512 ≡ true
        by_start n below None opened h = cc
        by_start n below (Some x) opened h =
            let page = started past n x a.sound opened in
            let few = ltb-true x.slot.index 512 (a.shows.slots.within page.page x.slot page.names) in
            any_below-some (λ index. s.is_slot_named (place_at f.0 index)) 512 x.slot.index few
            (named_is x.slot.index few
            ∙ any_below-some (λ i. names_slot (open_slot past i) (slot_at va x.slot.index)) j.epc n below
            (ap (λ o. names_slot (slot_of_start o) (slot_at va x.slot.index)) opened ∙ rw (h, eq-eqb x.slot.index x.slot.index refl) refl))

    in_use_is : is_in_use s f.0 ≡ is_va_in_use j.epc past va
    in_use_is =
        ap (λ c. is_va c && any_below (λ index. s.is_slot_named (place_at f.0 index)) 512) array_in
        ∙ same_tests (any_below (λ index. s.is_slot_named (place_at f.0 index)) 512) (is_va_in_use j.epc past va) to_entries to_machine

  -- ---- what can be asked

  pub can_be_due : (v : PassView) → StandsAt made.first_epoch j past v → CanBeDue d s v.behind
  can_be_due v stands = record {
    counts = a.shows.counts;
    arrays = array_place;
    here = λ va f low is.
        let here : place past (va_page va) ≡ Here f.0 = sym (a.shows.states (va_page va) (array_place va low)) ∙ ap place_in is in
        (ap is_va (array_in va low f here), a.shows.slots.added va ∙ here_made va f.0 here);
    secs = secs v.behind stands.out;
  }
    where
      secs : (b : Behind) → IsOut past b → HasSecs d b
      secs last.NoRoom there = tt
      secs last.Nothing there = tt
      secs (last.Out page) there = λ own.
          let within = within_enclaves d.states.counts.own page.enclave page.number
          (own_low d.states.counts page own (a.shows.placed page there)) in
          let same = ap (λ c. length c.own) (a.shows.counts ∙ a.shows.of_job) ∙ count_enclaves j ∙ sym a.shows.enclaves in (
            secs_of k j d past a.shows page own there,
            within.0,
            let few = a.shows.few_enclaves in let most = within.1 in omega (arith, few, most, same),
          )

  -- ---- what is due

  module _ (out : Outs) (all : HasAllSlots k) (shown : ShowsOuts d.slots past out)
      (held : (g : Page) → is_held_by d.active.own g ≡ is_held j past g) where
    -- the keeper's slots of a page that was made are all of it
    full_in : (va : ℕ) → is_full_in d.slots va ≡ not (any_below (is_left (array_at d.slots va)) 512)
    unfolding is_full_in
    full_in va = refl

    full_by : (va : ℕ) → not (any_below (λ index. not (out (slot_at va index))) 512) ≡ is_full out va
    unfolding is_full
    full_by va = refl

    full_is : (va : ℕ) → (va == 0) ≡ false → nat_lt va (vas_made past) ≡ true → is_full_in d.slots va ≡ is_full out va
    full_is va later there =
        full_in va ∙ ap not (any_same (is_left (array_at d.slots va)) (λ index. not (out (slot_at va index))) 512 each) ∙ full_by va
      where
        ours : (index : ℕ) → index < 512 → is_ours d.slots (slot_at va index) ≡ true
        ours index few = a.shows.slots.ours (slot_at va index) ∙ rw (there, all va later) (within index few)
          where
            within : (i : ℕ) → i < 512 → (nat_le 0 i && nat_lt i 512) ≡ true
            within i low = grind (arith, low)

        each : (index : ℕ) → index < 512 → is_left (array_at d.slots va) index ≡ not (out (slot_at va index))
        each index few =
            ap (λ b. b && not (is_out d.slots (slot_at va index))) (ours index few)
            ∙ ap not (shown (slot_at va index) later (lower va (vas_made past) there) few)
          where
            lower : (x y : ℕ) → nat_lt x y ≡ true → x < y
            lower x y h = grind (arith, h)

    -- the builder holds no version array page
    held_is : (va : ℕ) → is_held_by d.active.own (va_page va) ≡ is_held_below j past (va_page va) (length j.scripts)
    held_is va =
        held (va_page va) ∙ ap (λ b. b || is_held_below j past (va_page va) (length j.scripts)) (by_hold (builder_holds j past) refl)
      where
        by_hold : (o : Option Page) → builder_holds j past ≡ o → is_among (listed o) (va_page va) ≡ false
        by_hold None is = refl
        by_hold (Some g) is =
            let inside = within_enclaves (page_counts j) g.enclave g.number (extended_low j (built past) g is) in
            rw (positive g.enclave inside.0) refl

    spare_is : (va : ℕ) → (va == 0) ≡ false → va < d.va_pages → is_spare_in d s va ≡ is_spare j past out va
    spare_is va later low =
        by_state (page_state d.states (va_page va)) (a.shows.states (va_page va) (array_place va low))
      where
        other : (p : Place) → place past (va_page va) ≡ p → is_here p ≡ false → false ≡ is_spare j past out va
        other p at away = rw (later, at, away) refl

        by_state : (state : PageState) → place_in state ≡ place past (va_page va) → is_spare_state d s va state ≡ is_spare j past out va
        by_state (states.Here f) at =
            ap (λ b. b && not (is_in_use s f.0) && not (is_held_by d.active.own (va_page va)))
            (full_is va later (here_made va f.0 (sym at)))
            ∙ ap (λ b. is_full out va && not b && not (is_held_by d.active.own (va_page va))) (in_use_is va low f (sym at))
            ∙ ap (λ b. is_full out va && not (is_va_in_use j.epc past va) && not b) (held_is va)
            ∙ there
          where
            there : (is_full out va && not (is_va_in_use j.epc past va) && not (is_held_below j past (va_page va) (length j.scripts)))
                ≡ is_spare j past out va
            there = rw (later, sym at) refl
        by_state states.Absent at = other _ (sym at) refl
        by_state (states.Leaving f) at = other _ (sym at) refl
        by_state (states.Loading f slot) at = other _ (sym at) refl
        by_state (states.Away slot) at = other _ (sym at) refl
        by_state (states.Lost slot) at = other _ (sym at) refl

    unmade : (va : ℕ) → vas_made past ≤ va → is_spare j past out va ≡ false
    unmade va high = by_place (place past (va_page va)) refl (sym (array_made va) ∙ higher va (vas_made past) high)
      where
        higher : (x y : ℕ) → y ≤ x → nat_lt x y ≡ false
        higher x y low = grind (arith, low)

        none : (b c : Bool) → c ≡ false → ((((not b && c) && is_full out va) && not (is_va_in_use j.epc past va)) && not
            (is_held_below j past (va_page va) (length j.scripts))) ≡ false
        none true c h = refl
        none false c h = rw h refl

        by_place : (p : Place) → place past (va_page va) ≡ p → not (is_absent p) ≡ false → is_spare j past out va ≡ false
        by_place Absent at h = none (va == 0) (is_here (place past (va_page va))) (ap is_here at)
        by_place p at h = absurd (false≢true (sym h))

    spares_are : spare_in d s ≡ spare j past out
    spares_are = ap spares.array_at (least_same (is_spare_in d s) (is_spare j past out) 1 (d.va_pages - 1)
        (λ va from low. spare_is va (positive va from) (omega (arith, from, low))) ∙ by_made (vas_made past) refl)
      where
        by_made : (n : ℕ) → vas_made past ≡ n → least_from (is_spare j past out) 1 (d.va_pages - 1) ≡ least_from (is_spare j past out) 0 n
        by_made zero is =
            least_none (is_spare j past out) 1 (d.va_pages - 1) (λ va from. unmade va (let z : vas_made past ≡ 0 = is in omega (arith, z)))
        by_made (suc n) is =
            ap (least_from (is_spare j past out) 1) split
            ∙ least_more (is_spare j past out) 1 n (d.va_pages - 1 - n)
            (λ va from. unmade va (let z : vas_made past ≡ suc n = is in omega (arith, from, z)))
          where
            split : d.va_pages - 1 ≡ n + (d.va_pages - 1 - n)
            split = let few = made_few in omega (arith, few, is)

    due_is : (o : Option Event) → IsOut past (behind_of o) → due_in d s (behind_of o) ≡ due_by j past out o
    due_is None there = refl
    due_is (Some (Did (actions.Ewb f) (Moved page version tag))) there = by_own (is_own_page page) refl
      where
        by_own : (b : Bool) → is_own_page page ≡ b
            → (if b && is_alone_in d s page.enclave then Some (secs_page page.enclave) else spare_in d s)
            ≡ (if b && is_alone j past page.enclave then Some (secs_page page.enclave) else spare j past out)
        by_own true own =
            ap (λ c. if c then Some (secs_page page.enclave) else spare_in d s) (alone_is page own there)
            ∙ ap (λ o. if is_alone j past page.enclave then Some (secs_page page.enclave) else o) spares_are
        by_own false own = spares_are
    due_is (Some (Age page looks.NoRoom)) there = by_secs (is_secs_page page)
      where
        by_secs : (b : Bool) → due_in d s (if b then last.NoRoom else last.Nothing) ≡ (if b then spare j past out else None)
        by_secs true = spares_are
        by_secs false = refl
    due_is _ there = refl

    pub dues_are : (v : PassView) → StandsAt made.first_epoch j past v → due_in d s v.behind ≡ due_with j past out
    dues_are v stands =
        ap (due_in d s) stands.behind ∙ due_is (last_event past actors.Reclaimer) (subst (IsOut past) stands.behind stands.out)
