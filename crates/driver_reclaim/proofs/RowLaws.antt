-- A block, a track and a start of a page that was taken are answered as the entries say.
use Rattle.std.proofs.Common.{◌≡◌, ℕ, ◌+◌, ◌-◌, ◌<◌, ◌≤◌, ◌^◌, ◌==◌, ◌&&◌, not, Bool, true, false, if◌then◌else◌, refl, sym, ◌∙◌, ap}
use Rattle.std.proofs.Common.{subst, List}
use Rattle.std.proofs.Common.{Option, Some, None, MatchOption, is_some, nat_le, nat_lt, arith, length}
use Rattle.std.proofs.lemmas.Bool.{eq-eqb, false≢true, leb-true, ltb-true, not-true}
use Rattle.std.proofs.lemmas.Option.{none-some}
use Rattle.sgx_types.proofs.Pages.{same_page-refl, same_pages, same_slots}
use Rattle.sgx_types.proofs.Truths.{both_true}
use Rattle.sgx_types.specs.Making.{Making}
use Rattle.sgx_types.specs.Pages.{is_own_page, is_va_page, same_slot, secs_page, va_page}
use Rattle.sgx_types.specs.declared.names.Actor.TheVariants as actors
use Rattle.sgx_types.specs.declared.names.Page.{Page}
use Rattle.sgx_types.specs.declared.names.SlotAt.{SlotAt}
use Rattle.sgx_types.specs.declared.names.TheConstants.{LAST_EPOCH}
use Rattle.sgx_types.specs.declared.names.VaSlot.{VaSlot}
use Rattle.sgx_rules.proofs.Contents.{IsHeld}
use Rattle.sgx_rules.specs.declared.entries.Action.{Action}
use Rattle.sgx_rules.specs.declared.entries.Action.TheVariants.{Block, EwbStart, Track}
use Rattle.sgx_rules.specs.declared.entries.Answer.TheVariants as answers
use Rattle.sgx_rules.specs.declared.entries.Entry.{Entry}
use Rattle.sgx_rules.specs.declared.entries.Event.TheVariants.{Did, Refused}
use Rattle.sgx_rules.specs.declared.refusals.Refusal.{Refusal}
use Rattle.sgx_rules.specs.declared.refusals.Refusal.TheVariants as why
use Rattle.sgx_rules.specs.Epochs.{epoch, epoch_in}
use Rattle.sgx_rules.specs.Eviction.{is_drained, kept_back}
use Rattle.sgx_rules.specs.Flat.{settled}
use Rattle.sgx_rules.specs.Frames.{content, is_blocked, is_child, is_free, is_sealing, IsVa, vas_made}
use Rattle.sgx_rules.specs.inner.Slots.{IsIdle}
use Rattle.sgx_rules.specs.Sights.{drain_sight_at, sight_at}
use Rattle.sgx_rules.specs.Slots.{names_slot, next_version, version_in}
use Rattle.sgx_rules.specs.Slots.{slot_of as slot_of_start}
use Rattle.sgx_rules.specs.Starts.{open_start, Start}
use Rattle.sgx_rules.specs.Table as table
use Rattle.sgx_types.specs.Cases.{first_of_row}
use Rattle.sgx_rules.specs.Table.{block_row, DrainSight, ewbstart_row, FrameSight, is_busy, is_loading, SlotSight}
use Rattle.sgx_rules.specs.Table.{track_row, TrackSight, UseSight}
use Rattle.job_grammar.specs.Jobs.{JobView, va_pages}
use Rattle.sgx_types.specs.Pages.{frame_at}
use Rattle.driver_slots.specs.inner.Keeper.{is_ours, is_out, va_slot}
use Rattle.machine_laws.proofs.ColumnLaws.{added_is, epoch_is, next_version_is, sight_is}
use Rattle.machine_laws.proofs.MoveSights.{secs_sees}
use Rattle.machine_laws.proofs.ShapeLaws.{older_agrees}
use Rattle.machine_laws.specs.inner.State.{is_version_spent, row_of, secs_sight, State, track_sight, version_at}
use Rattle.machine_laws.specs.inner.Steps.{IsDone, IsStep, refused_by}
use Rattle.sgx_machine.specs.inner.Parts.{Parts, state_of}
use Rattle.driver_list.specs.inner.Places.{IsPlaced}
use Rattle.driver_rules.specs.inner.Slotted.{fixed_count, fixed_slot, is_page_slot}
use Rattle.driver_rules.specs.Places.{Absent, Away, Here, Leaving, Loading, Place, place}
use Rattle.driver_laws.proofs.AloneLaws.{loading_is}
use Rattle.driver_laws.proofs.BuiltLaws.{own_added}
use Rattle.driver_laws.proofs.EpochLaws.{none_older}
use Rattle.driver_laws.proofs.FixedLaws.{fixed_apart, fixed_is_empty}
use Rattle.driver_laws.proofs.RowLaws.{array_within, own_held, secs_settled, start_goes, try_goes}
use Rattle.driver_laws.proofs.SoundLaws.{own_none}
use Rattle.driver_laws.proofs.StillLaws.{holds_here}
use Rattle.driver_laws.specs.inner.Agrees.{drivers, first_kept}
use Rattle.driver_laws.specs.inner.Fixed.{IsInJob}
use Rattle.driver_laws.specs.inner.Sound.{is_absent, is_write_start, IsSound, load_slot, slot_at, slot_of}
use Rattle.driver_laws.specs.inner.Stages.{IsTaken}
use Rattle.driver_laws.specs.inner.Tracks.{IsCalm}
use Rattle.driver_laws.specs.inner.Used.{SealingAreOpen, start_left}
use Rattle.driver_tables.proofs.TargetLaws.{fixed_is, in_job, slot_here_is}
use Rattle.driver_tables.specs.declared.driver.Driver.{Driver}
use Rattle.driver_tables.specs.inner.Targets.{fixed_in, slot_here_in}
use Rattle.driver_tables.proofs.PartLaws.{added_created, seen_made}
use Rattle.driver_tables.proofs.SightLaws.{first_version, slot_is}
use Rattle.driver_tables.specs.inner.Agrees.{Agrees}
use Rattle.driver_pass.specs.declared.stages.Taken.{Taken}
use Rattle.driver_reclaim.specs.declared.turns.PassTurn.{PassTurn}
use Rattle.driver_reclaim.specs.declared.turns.PassTurn.TheVariants as turns
use Rattle.driver_reclaim.specs.inner.Answers.{by_reclaimer, start_turn, track_turn, try_turn}
use Rattle.driver_reclaim.specs.inner.Turning.{turn_of}
use Rattle.driver_reclaim.proofs.SeenLaws.{columns, drain_sees, fits, here_at, IsHereAt, leaving_within, uses_aside, uses_own}

-- ---- a step by what its row says

step_done : (s t : State) (action : Action) (e : Entry) → IsStep s actors.Reclaimer action e t
    → first_of_row (row_of s actors.Reclaimer action) ≡ None → IsDone s actors.Reclaimer action e t
step_done s t action e step none =
    subst (λ o. MatchOption o (IsDone s actors.Reclaimer action e t) (λ refusal. (e ≡ refused_by actors.Reclaimer action refusal)
    × (t ≡ s))) none step

step_refused : (s t : State) (action : Action) (e : Entry) (refusal : Refusal) → IsStep s actors.Reclaimer action e t
    → first_of_row (row_of s actors.Reclaimer action) ≡ Some refusal → (e ≡ refused_by actors.Reclaimer action refusal) × (t ≡ s)
step_refused s t action e refusal step some =
    subst (λ o. MatchOption o (IsDone s actors.Reclaimer action e t) (λ r. (e ≡ refused_by actors.Reclaimer action r) × (t ≡ s))) some step

-- ---- a page that waits in its frame

pub same_frame : (past : List Entry) (g : Page) (a b : ℕ) → place past g ≡ Leaving a → place past g ≡ Leaving b → a ≡ b
same_frame past g a b at here = let both : Leaving a ≡ Leaving b = sym at ∙ here in cc

-- .. that stands beside it
pub in_frame : (past : List Entry) (b : Bool) (g : Page) (f : ℕ) → place past g ≡ Leaving f → IsTaken past b g
    → (is_blocked past f ≡ b) × (open_start past f ≡ None)
in_frame past b g f at w =
    subst (λ n. (is_blocked past n ≡ b) × (open_start past n ≡ None)) (same_frame past g w.frame f w.leaving at) (w.block, w.start)

-- ---- rows

-- a block of a TCS or REG page that is not blocked
block_goes : (frames : ℕ) (past : List Entry) (g : Page) (f : ℕ) → IsSound past → SealingAreOpen past → is_own_page g ≡ true
    → place past g ≡ Leaving f → IsTaken past false g → nat_le frames f ≡ false → first_of_row (block_row (sight_at frames past f)) ≡ None
block_goes frames past g f s sealing own at w low = rw (low, idle, used, secs, va, there.0) refl
  where
    there : (is_blocked past f ≡ false) × (open_start past f ≡ None)
    there = in_frame past false g f at w

    held : IsHeld (content past f) g
    held = own_held (content past f) g own (holds_here past g (Leaving f) f s at (eq-eqb f f refl))

    stays : is_sealing past f ≡ false
    stays = sealing f ∙ ap is_write_start there.1

    waits : is_loading (content past f) ≡ false
    waits = ap is_loading held.holds

    idle : is_busy (sight_at frames past f) ≡ false
    idle = rw (stays, waits) refl

    used : is_free (content past f) ≡ false
    used = ap is_free held.holds

    secs : table.is_secs (content past f) ≡ false
    secs = ap table.is_secs held.holds

    va : table.is_va (content past f) ≡ false
    va = ap table.is_va held.holds

-- an open start's slot is a page's
owned : (past : List Entry) (n : ℕ) (x : Start) → IsSound past → open_start past n ≡ Some x → (g : Page) × (slot_of past g ≡ Some x.slot)
owned past n x s opened = by_loads x.loads refl
  where
    by_loads : (o : Option Page) → x.loads ≡ o → (g : Page) × (slot_of past g ≡ Some x.slot)
    by_loads None is =
        let w = s.places.writes n (ap is_write_start opened ∙ ap (λ y. not (is_some y)) is) in
        (w.0, ap (slot_at (open_start past)) w.1 ∙ ap slot_of_start opened)
    by_loads (Some g) is =
        let load : load_slot (Some x) g ≡ Some x.slot = rw (is, same_page-refl g) refl in
        let at = loading_is (place past g) n x.slot (sym (s.places.loads g n) ∙ ap (λ o. load_slot o g) opened ∙ load) in
        (g, ap (slot_at (open_start past)) at)

track_goes : (s : TrackSight) → table.is_made s.enclave ≡ true → s.secs ≡ settled → s.older ≡ 0
    → first_of_row (track_row s) ≡ (if s.is_spent then Some why.EpochSpent else None)
track_goes s made stays none = rw (made, stays, none) refl

same_row : (x x' : FrameSight) (u u' : UseSight) (y y' : SlotSight) (z z' : DrainSight) (b : Bool) → x ≡ x' → u ≡ u' → y ≡ y' → z ≡ z'
    → first_of_row (ewbstart_row x u y z b) ≡ first_of_row (ewbstart_row x' u' y' z' b)
same_row x x' u u' y y' z z' b p q r o i = first_of_row (ewbstart_row (p i) (q i) (r i) (o i) b)

-- ---- where driver and machine agree

module _ (made : Making) (j : JobView) (past : List Entry) (d : Driver) (m : Parts) (a : Agrees made j past d m) where
  first_is : (state_of m).first_epoch ≡ made.first_epoch
  first_is = ap (λ (x : Making). x.first_epoch) a.follows.shape.making

  next_is : (state_of m).next_version ≡ next_version made.first_version past
  next_is = next_version_is (columns made j past d m a) ∙ ap (λ (x : Making). next_version x.first_version past) a.follows.shape.making

  arrays_are : d.states.counts.arrays ≡ va_pages j
  arrays_are = ap (λ c. c.arrays) (a.shows.counts ∙ a.shows.of_job)

  -- a version array page that was made has its place, and there are few
  pub array_placed : (va : ℕ) → nat_lt va (vas_made past) ≡ true → IsPlaced d.states.counts (va_page va)
  array_placed va low = a.shows.placed (va_page va) (not-true (is_absent (place past (va_page va))) (sym (a.sound.made (va_page va)) ∙ low))

  pub array_few : (va : ℕ) → IsPlaced d.states.counts (va_page va) → va < 9
  array_few va placed =
      let low : va < d.states.counts.arrays = placed.array refl in
      omega (arith, low, arrays_are, a.shows.arrays, a.shows.few_arrays)

  pub array_has_place : (va : ℕ) → va < va_pages j → IsPlaced d.states.counts (va_page va)
  array_has_place va low = record {
    array = λ is. omega (arith, low, arrays_are);
    secs = λ is. absurd (false≢true is);
    own = λ is. absurd (false≢true is);
  }

  -- ---- blocks

  pub block_told : (one : Taken) (e : Entry) (t : State) → is_own_page one.page ≡ true → place past one.page ≡ Leaving one.frame.0
      → IsTaken past false one.page → IsStep (state_of m) actors.Reclaimer (Block one.frame) e t
      → e ≡ by_reclaimer (Did (Block one.frame) answers.Plain)
  block_told one e t own at w step =
      (step_done (state_of m) t (Block one.frame) e step
      (ap (λ x. first_of_row (block_row x)) (sight_is (columns made j past d m a) one.frame.0)
      ∙ block_goes (state_of m).frames past one.page one.frame.0 a.sound a.pages.sealing own at w
      (leaving_within made j past d m a one.page one.frame.0 at))).0

  -- ---- tracks

  pub track_told : (g : Page) (f : ℕ) (e : Entry) (t : State) → is_own_page g ≡ true → place past g ≡ Leaving f → IsCalm past g.enclave
      → IsStep (state_of m) actors.Reclaimer (Track g.enclave) e t → turn_of e e.event ≡ track_turn made.first_epoch past g.enclave
  track_told g f e t own at calm step =
      by_epoch ((state_of m).epoch g.enclave == LAST_EPOCH) row
      ∙ ap (λ (n : ℕ). said (n == LAST_EPOCH)) (epoch_is (columns made j past d m a) g.enclave
      ∙ ap (λ n. epoch n past g.enclave) first_is)
    where
      said : Bool → PassTurn
      said b = if b then turns.Spent (by_reclaimer (Refused (Track g.enclave) why.EpochSpent)) else turns.One
          (by_reclaimer (Did (Track g.enclave) answers.Plain))

      held : IsHeld (content past f) g
      held = own_held (content past f) g own (holds_here past g (Leaving f) f a.sound at (eq-eqb f f refl))

      some : is_va_page (secs_page g.enclave) ≡ false
      some = (own_none g own).1

      secs : secs_sight (state_of m) g.enclave ≡ settled
      secs =
          secs_sees (state_of m) past (columns made j past d m a) g.enclave
          ∙ secs_settled (state_of m).frames past g.enclave a.sound a.pages.sealing (fits made j past d m a) some
          (a.sound.secs f g.enclave some (ap (λ c. is_child c g.enclave) held.holds ∙ eq-eqb g.enclave g.enclave refl))

      there : is_some ((state_of m).added g) ≡ true
      there = ap is_some (added_is (columns made j past d m a) g) ∙ own_added past g a.sound own (ap is_absent at)

      row : first_of_row (row_of (state_of m) actors.Reclaimer (Track g.enclave))
          ≡ (if (state_of m).epoch g.enclave == LAST_EPOCH then Some why.EpochSpent else None)
      row =
          track_goes (track_sight (state_of m) g.enclave) (seen_made ((state_of m).enclaves g.enclave) (added_created m g there)) secs
          (older_agrees (state_of m) past (columns made j past d m a) g.enclave ∙ none_older past g.enclave calm)

      by_epoch : (b : Bool) → first_of_row (row_of (state_of m) actors.Reclaimer (Track g.enclave))
          ≡ (if b then Some why.EpochSpent else None) → turn_of e e.event ≡ said b
      by_epoch true r = ap (λ (x : Entry). turn_of x x.event) (step_refused (state_of m) t (Track g.enclave) e why.EpochSpent step r).0
      by_epoch false r = ap (λ (x : Entry). turn_of x x.event) (step_done (state_of m) t (Track g.enclave) e step r).0

  -- ---- tries

  -- what a slot of the driver's that is not out is found by
  pub free_at : (slot : VaSlot) (at : SlotAt) → is_ours d.slots slot ≡ true → slot_here_in d slot ≡ Some at
      → IsHereAt past slot at × (at.index < 512)
  free_at slot at ours not-true = (here, ltb-true at.index 512 (ap (λ n. nat_lt n 512) here.index ∙ low))
    where
      made_one : (nat_lt slot.va (vas_made past) ≡ true) × ((nat_le (first_kept j slot.va) slot.index && nat_lt slot.index 512) ≡ true)
      made_one =
          both_true (nat_lt slot.va (vas_made past)) (nat_le (first_kept j slot.va) slot.index && nat_lt slot.index 512) (sym
          (a.shows.slots.ours slot) ∙ ours)

      low : nat_lt slot.index 512 ≡ true
      low = (both_true (nat_le (first_kept j slot.va) slot.index) (nat_lt slot.index 512) made_one.1).1

      placed : IsPlaced d.states.counts (va_page slot.va)
      placed = array_placed slot.va made_one.0

      here : IsHereAt past slot at
      here =
          here_at past slot at a.sound (array_few slot.va placed)
          (sym (slot_here_is (drivers j) j d past a.shows slot placed) ∙ not-true)

  abbrev try_said : SlotAt → ℕ → ℕ → ℕ → ℕ → Bool → Bool → Bool → PassTurn
  try_said at f first version next drained empty spent =
      if drained
      then (if empty
      then (if spent then turns.Spent (by_reclaimer (Refused (EwbStart (frame_at f) at) why.VersionSpent))
      else turns.Seal (by_reclaimer (Did (EwbStart (frame_at f) at) (answers.Version next))))
      else turns.One (by_reclaimer (Refused (EwbStart (frame_at f) at) (why.SlotOccupied version))))
      else turns.One (by_reclaimer (Refused (EwbStart (frame_at f) at) (why.NotTracked (epoch_in first past f) (kept_back past f))))

  abbrev try_left : ℕ → ℕ → ℕ → Bool → Bool → Bool → Option Refusal
  try_left first f version drained empty spent =
      if not drained then Some (why.NotTracked (epoch_in first past f) (kept_back past f))
      else if not empty then Some (why.SlotOccupied version)
      else if spent then Some why.VersionSpent
      else None

  -- a step of it, by the tests of its row
  start_step : (one : Taken) (at : SlotAt) (e : Entry) (t : State) (first version : ℕ)
      → IsStep (state_of m) actors.Reclaimer (EwbStart one.frame at) e t → (drained empty spent : Bool)
      → first_of_row (row_of (state_of m) actors.Reclaimer (EwbStart one.frame at))
      ≡ try_left first one.frame.0 version drained empty spent
      → turn_of e e.event ≡ try_said at one.frame.0 first version (state_of m).next_version drained empty spent
  start_step one at e t first version step false empty spent r =
      ap (λ (x : Entry). turn_of x x.event) (step_refused (state_of m) t (EwbStart one.frame at) e _ step r).0
  start_step one at e t first version step true false spent r =
      ap (λ (x : Entry). turn_of x x.event) (step_refused (state_of m) t (EwbStart one.frame at) e _ step r).0
  start_step one at e t first version step true true true r =
      ap (λ (x : Entry). turn_of x x.event) (step_refused (state_of m) t (EwbStart one.frame at) e _ step r).0
  start_step one at e t first version step true true false r =
      ap (λ (x : Entry). turn_of x x.event) (step_done (state_of m) t (EwbStart one.frame at) e step r).0

  pub try_told : (one : Taken) (slot : VaSlot) (at : SlotAt) (e : Entry) (t : State) → is_own_page one.page ≡ true
      → place past one.page ≡ Leaving one.frame.0 → IsTaken past true one.page → is_ours d.slots slot ≡ true → is_out d.slots slot ≡ false
      → slot_here_in d slot ≡ Some at → IsStep (state_of m) actors.Reclaimer (EwbStart one.frame at) e t
      → turn_of e e.event ≡ try_turn made past one.frame.0 at (version_at (state_of m) at)
  try_told one slot at e t own leaving w ours free named step =
      start_step one at e t (state_of m).first_epoch (version_at (state_of m) at) step (is_drained past one.frame.0)
      (version_at (state_of m) at == 0) (is_version_spent (state_of m)) row
      ∙ ap (λ (n : ℕ). try_said at one.frame.0 (state_of m).first_epoch (version_at (state_of m) at) n (is_drained past one.frame.0)
      (version_at (state_of m) at == 0) (n == 2 ^ 64)) next_is
      ∙ ap (λ n. try_said at one.frame.0 n (version_at (state_of m) at) (next_version made.first_version past)
      (is_drained past one.frame.0) (version_at (state_of m) at == 0) (next_version made.first_version past == 2 ^ 64)) first_is
    where
      there : (is_blocked past one.frame.0 ≡ true) × (open_start past one.frame.0 ≡ None)
      there = in_frame past true one.page one.frame.0 leaving w

      here : IsHereAt past slot at × (at.index < 512)
      here = free_at slot at ours named

      row : first_of_row (row_of (state_of m) actors.Reclaimer (EwbStart one.frame at))
          ≡ try_left (state_of m).first_epoch one.frame.0 (version_at (state_of m) at) (is_drained past one.frame.0)
          (version_at (state_of m) at == 0) (is_version_spent (state_of m))
      row =
          same_row _ _ _ _ _ _ _ _ (is_version_spent (state_of m)) (sight_is (columns made j past d m a) one.frame.0)
          (uses_own made j past d m a one.page one.frame.0 at own leaving) (slot_is made j past d m a at here.1)
          (drain_sees made j past d m a one.frame.0)
          ∙ try_goes (state_of m).frames (drivers j) j d.slots past one.page slot at
          (record { frame = one.frame.0; leaving = leaving; block = there.0; start = there.1 })
          (drain_sight_at (state_of m).first_epoch past one.frame.0) (version_at (state_of m) at) (is_version_spent (state_of m)) a.sound
          a.pages.sealing a.shows.slots own ours free here.0.found (leaving_within made j past d m a one.page one.frame.0 leaving)
          (array_within (state_of m).frames past at.frame.0 (fits made j past d m a) (ap table.is_va here.0.array))

  -- ---- SECSs and version array pages

  -- the own slot of one that leaves with no start open is named by no start, and holds no version
  module _ (one : Taken) (other : is_own_page one.page ≡ false) (leaving : place past one.page ≡ Leaving one.frame.0)
      (none : open_start past one.frame.0 ≡ None) where
    abbrev fixed_by : Bool → VaSlot
    fixed_by b = if b then record { va = 0; index = length j.enclaves + one.page.number } else record {
      va = 0;
      index =
          one.page.enclave - 1;
    }

    placed : IsPlaced d.states.counts one.page
    placed = a.shows.placed one.page (ap is_absent leaving)

    its : IsInJob j one.page
    its = in_job (drivers j) j d past one.page a.shows placed other

    no_slot : slot_of past one.page ≡ None
    no_slot = ap (slot_at (open_start past)) leaving ∙ ap slot_of_start none

    others : (h : Page) (s : VaSlot) → slot_of past h ≡ Some s → is_own_page h ≡ false → IsInJob j h
    others h s has own = in_job (drivers j) j d past h a.shows (a.shows.placed h (by_place (place past h) has)) own
      where
        by_place : (p : Place) → slot_at (open_start past) p ≡ Some s → is_absent p ≡ false
        by_place Absent k = cc
        by_place (Here f) k = refl
        by_place (Leaving f) k = refl
        by_place (Loading f slot) k = refl
        by_place (Away slot) k = refl

    empty : version_in past (fixed_slot j one.page) ≡ 0
    empty = fixed_is_empty j past one.page a.stand a.fixed others its no_slot

    -- it is none for TCS and REG pages
    no_page_slot : is_page_slot j (fixed_slot j one.page) ≡ true → ⊥
    no_page_slot h = by_kind (is_va_page one.page) refl h
      where
        by_kind : (b : Bool) → is_va_page one.page ≡ b → is_page_slot j (fixed_by b) ≡ true → ⊥
        by_kind true va k =
            let high : fixed_count j ≤ length j.enclaves + one.page.number = leb-true _ _ k in omega (arith, high, its.array va)
        by_kind false va k =
            let high : fixed_count j ≤ one.page.enclave - 1 = leb-true _ _ k in omega (arith, high, its.secs va, its.least va)

    mine : (h : Page) (b : Bool) → is_own_page h ≡ b → slot_of past h ≡ Some (fixed_slot j one.page) → ⊥
    mine h true own has = no_page_slot ((a.fixed h (fixed_slot j one.page) has).own own)
    mine h false own has =
        let same = fixed_apart j one.page h its (others h (fixed_slot j one.page) has own)
        ((a.fixed h (fixed_slot j one.page) has).fixed own) in
        none-some (fixed_slot j one.page) (sym no_slot ∙ ap (slot_of past) (same_pages one.page h same) ∙ has)

    pub fixed_alone : (h : Page) → slot_of past h ≡ Some (fixed_slot j one.page) → ⊥
    fixed_alone h = mine h (is_own_page h) refl

    fixed_idle : IsIdle past (fixed_slot j one.page)
    fixed_idle n = by_start (open_start past n) refl
      where
        by_test : (x : Start) → open_start past n ≡ Some x → (b : Bool) → same_slot x.slot (fixed_slot j one.page) ≡ b → b ≡ false
        by_test x opened false is = refl
        by_test x opened true is =
            let owner = owned past n x a.sound opened in
            absurd (fixed_alone owner.0 (owner.1 ∙ ap Some (same_slots x.slot (fixed_slot j one.page) is)))

        by_start : (o : Option Start) → open_start past n ≡ o → names_slot (slot_of_start o) (fixed_slot j one.page) ≡ false
        by_start None opened = refl
        by_start (Some x) opened = by_test x opened (same_slot x.slot (fixed_slot j one.page)) refl

    -- it is in version array page 0
    zero_is : (fixed_slot j one.page).va ≡ 0
    zero_is = by_kind (is_va_page one.page)
      where
        by_kind : (b : Bool) → (fixed_by b).va ≡ 0
        by_kind true = refl
        by_kind false = refl

    low : (fixed_slot j one.page).index < 512
    low = by_kind (is_va_page one.page) refl
      where
        by_kind : (b : Bool) → is_va_page one.page ≡ b → (fixed_by b).index < 512
        by_kind true va =
            omega (arith, its.array va, a.shows.enclaves, a.shows.few_enclaves, a.shows.arrays, a.shows.few_arrays)
        by_kind false va = omega (arith, its.secs va, a.shows.enclaves, a.shows.few_enclaves)

    -- .. which is here
    pub fixed_at : (at : SlotAt) → slot_here_in d (fixed_in d one.page) ≡ Some at → IsHereAt past (fixed_slot j one.page) at
    fixed_at at named =
        here_at past (fixed_slot j one.page) at a.sound (omega (arith, zero_is))
        (sym (slot_here_is (drivers j) j d past a.shows (fixed_slot j one.page)
        (subst (λ n. IsPlaced d.states.counts (va_page n)) (sym zero_is) (array_has_place 0 (omega arith))))
        ∙ ap (slot_here_in d) (sym (fixed_is (drivers j) j d past a.shows one.page)) ∙ named)

    pub start_told : (at : SlotAt) (e : Entry) (t : State) → slot_here_in d (fixed_in d one.page) ≡ Some at
        → IsStep (state_of m) actors.Reclaimer (EwbStart one.frame at) e t → turn_of e e.event ≡ start_turn made past one.frame.0 at
    start_told at e t named step =
        start_step one at e t 0 0 step true true (is_version_spent (state_of m)) row
        ∙ ap (λ (n : ℕ). try_said at one.frame.0 0 0 n true true (n == 2 ^ 64)) next_is
      where
        here : IsHereAt past (fixed_slot j one.page) at
        here = fixed_at at named

        within : at.index < 512
        within = subst (λ n. n < 512) (sym here.index) low

        not_above : nat_lt 511 at.index ≡ false
        not_above = by_test (nat_lt 511 at.index) refl
          where
            by_test : (b : Bool) → nat_lt 511 at.index ≡ b → b ≡ false
            by_test false is = refl
            by_test true is = absurd (omega (arith, within, ltb-true 511 at.index is))

        same : va_slot 0 at.index ≡ fixed_slot j one.page
        same i = record { va = sym zero_is i; index = here.index i }

        version : version_at (state_of m) at ≡ 0
        version =
            first_version made j past d m a at within (here.array ∙ ap IsVa zero_is) ∙ ap (version_in past) same ∙ empty

        row : first_of_row (row_of (state_of m) actors.Reclaimer (EwbStart one.frame at))
            ≡ try_left 0 one.frame.0 0 true true (is_version_spent (state_of m))
        row =
            same_row _ _ _ _ _ _ _ _ (is_version_spent (state_of m)) (sight_is (columns made j past d m a) one.frame.0)
            (uses_aside made j past d m a one.page one.frame.0 leaving none at) (slot_is made j past d m a at within)
            (drain_sees made j past d m a one.frame.0)
            ∙ start_goes (state_of m).frames past one.page one.frame.0 (fixed_slot j one.page) at
            (drain_sight_at (state_of m).first_epoch past one.frame.0) (version_at (state_of m) at) (is_version_spent (state_of m)) a.sound
            a.pages.sealing other leaving none here.found here.here fixed_idle
            (leaving_within made j past d m a one.page one.frame.0 leaving)
            (array_within (state_of m).frames past at.frame.0 (fits made j past d m a) (ap table.is_va here.array)) not_above
            ∙ ap (λ n. first_of_row (start_left n (is_version_spent (state_of m)))) version
