-- Behind a turn tables and holds say what the longer list says.
use Rattle.std.proofs.Common.{◌≡◌, inl, inr, ℕ, zero, suc, ◌+◌, ◌<◌, ◌&&◌, nat_le, nat_lt, not, Bool, true, false, if◌then◌else◌, refl}
use Rattle.std.proofs.Common.{sym, ◌∙◌}
use Rattle.std.proofs.Common.{ap, subst, List, [], ◌∷◌, length, map, Option, Some, None, arith}
use Rattle.std.proofs.lemmas.Bool.{eq-eqb, false≢true, ltb-true}
use Rattle.std.proofs.lemmas.Option.{same_Some}
use Rattle.sgx_types.proofs.CountLaws.{any_below-some}
use Rattle.sgx_types.proofs.Truths.{both_true}
use Rattle.sgx_types.specs.Making.{Making}
use Rattle.sgx_types.specs.Pages.{is_own_page, is_secs_page, is_va_page, secs_page, va_page}
use Rattle.sgx_types.specs.declared.names.Actor.TheVariants as actors
use Rattle.sgx_types.specs.declared.names.Page.{Page}
use Rattle.sgx_types.specs.declared.names.SlotAt.{SlotAt}
use Rattle.sgx_types.specs.declared.names.VaSlot.{VaSlot}
use Rattle.sgx_rules.proofs.Contents.{IsHeld}
use Rattle.sgx_rules.specs.declared.entries.Action.TheVariants as actions
use Rattle.sgx_rules.specs.declared.entries.Action.TheVariants.{Block, Eld, Ewb, EwbStart, Track}
use Rattle.sgx_rules.specs.declared.entries.Answer.{Answer}
use Rattle.sgx_rules.specs.declared.entries.Answer.TheVariants.{Moved}
use Rattle.sgx_rules.specs.declared.entries.Entry.{Entry}
use Rattle.sgx_rules.specs.declared.entries.Event.{Event}
use Rattle.sgx_rules.specs.declared.entries.Event.TheVariants.{Age, Did, Kick, Refused}
use Rattle.sgx_rules.specs.declared.entries.Look.{Look}
use Rattle.sgx_rules.specs.declared.entries.Look.TheVariants as looks
use Rattle.sgx_rules.specs.declared.refusals.Refusal.{Refusal}
use Rattle.sgx_rules.specs.declared.refusals.Refusal.TheVariants as why
use Rattle.sgx_rules.specs.Frames.{content, page_there, vas_made}
use Rattle.sgx_rules.specs.Starts.{open_start, slot_found}
use Rattle.job_grammar.specs.Jobs.{JobView}
use Rattle.driver_slots.specs.inner.Keeper.{count_out, is_ours, is_out, Takes}
use Rattle.machine_laws.proofs.RowLaws.{IsEntryOf, step_entry}
use Rattle.sgx_machine.specs.inner.Parts.{Parts, state_of}
use Rattle.driver_list.specs.inner.Holds.{is_held as is_held_by}
use Rattle.driver_list.specs.inner.Keeping.{kept_at, page_kept}
use Rattle.driver_rules.specs.Ages.{ahead_by, head_of, IsAhead}
use Rattle.driver_rules.specs.Ages as ages
use Rattle.driver_rules.specs.Holds.{is_held, is_held_below}
use Rattle.driver_rules.specs.declared.waits.Why.TheVariants as reasons
use Rattle.driver_rules.specs.inner.Slotted.{fixed_slot}
use Rattle.driver_rules.specs.Stops.{last_event}
use Rattle.driver_rules.specs.Places.{active, Here, Leaving, place}
use Rattle.driver_rules.specs.Spares.{array_at, due_by, due_with, is_alone, is_full, is_spare, least_from, Outs, outs_kept, spare}
use Rattle.driver_laws.proofs.KeepLaws.{stays_shown}
use Rattle.driver_laws.proofs.MarkLaws.{is_markless, listed-quiet}
use Rattle.driver_laws.proofs.KeeperTakes.{ours_within}
use Rattle.driver_laws.proofs.RowLaws.{own_held}
use Rattle.driver_laws.proofs.SoundLaws.{head_here, own_none}
use Rattle.driver_laws.proofs.StillLaws.{holds_here}
use Rattle.driver_laws.proofs.MoveLaws.{place-quiet}
use Rattle.driver_laws.specs.inner.Agrees.{drivers, first_kept, ShowsSlots}
use Rattle.driver_laws.specs.inner.Counted.{CountMoves, is_own_held, is_own_there}
use Rattle.driver_laws.specs.inner.Keeps.{LeavesFull, TakesIf}
use Rattle.driver_laws.specs.inner.Kinds.{is_quiet}
use Rattle.driver_laws.specs.inner.Sound.{is_absent}
use Rattle.driver_laws.specs.inner.Stages.{IsTaken}
use Rattle.driver_laws.proofs.DueLaws.{least_passes}
use Rattle.driver_tables.proofs.ListLaws.{heads}
use Rattle.driver_tables.proofs.ShowLaws.{is_slotless, shows_looked, shows_looked_aside, shows_occupied, shows_quiet_entry, shows_started}
use Rattle.driver_tables.proofs.ShowLaws.{shows_still, takes_none}
use Rattle.driver_tables.proofs.TargetLaws.{fixed_aside, fixed_within}
use Rattle.driver_tables.specs.declared.driver.Driver.{Driver}
use Rattle.driver_tables.specs.inner.Moves.{IsLooked, IsLookedAside}
use Rattle.driver_tables.specs.inner.Tables.{listed, ShowsTables}
use Rattle.driver_pass.specs.declared.stages.Aside.{Aside}
use Rattle.driver_pass.specs.declared.stages.Aside.TheVariants as asides
use Rattle.driver_pass.specs.declared.stages.Form.{Form}
use Rattle.driver_pass.specs.declared.stages.Form.TheVariants as forms
use Rattle.driver_pass.specs.declared.stages.Stage.{Stage}
use Rattle.driver_pass.specs.declared.stages.Stage.TheVariants as stages
use Rattle.driver_pass.specs.declared.stages.Taken.{Taken}
use Rattle.driver_pass.specs.inner.Dues.{due_in}
use Rattle.driver_pass.specs.inner.Viewed.{PassView, taken_at}
use Rattle.driver_reclaim.specs.declared.turns.PassTurn.{PassTurn}
use Rattle.driver_reclaim.specs.declared.turns.PassTurn.TheVariants as turns
use Rattle.driver_reclaim.specs.inner.After.{cpu_of, kicked_past}
use Rattle.driver_reclaim.specs.inner.Answers.{by_reclaimer}
use Rattle.driver_reclaim.specs.inner.Kept.{KeepsReclaim, TurnKeeps}
use Rattle.driver_reclaim.specs.inner.Ready.{Ready}
use Rattle.driver_reclaim.specs.inner.Rests.{IsWait}
use Rattle.driver_reclaim.specs.inner.Shown.{ShowsAfter, ShowsEntry}
use Rattle.driver_reclaim.specs.inner.Tables.{Shows}
use Rattle.driver_reclaim.specs.inner.Tried.{IsTried, keeps_slot, SlotsAfter}
use Rattle.driver_reclaim.specs.inner.Turning.{AsideSays, DueSays, FormSays, IsAsideTurn, IsDueLook, IsMadeTurn, IsScanned, IsTryTurn}
use Rattle.driver_reclaim.specs.inner.Turning.{StageSays}
use Rattle.driver_reclaim.specs.inner.Turning.{ThirdSays, turn_of, TurnSays, WithPage}
use Rattle.driver_reclaim.proofs.PassLaws.{due_aside, due_is, out_is}
use Rattle.driver_reclaim.proofs.KeptLaws.{there_page, turn_keeps}
use Rattle.driver_reclaim.proofs.RowLaws.{fixed_at, free_at, in_frame}
use Rattle.driver_reclaim.proofs.SeenLaws.{IsHereAt}
use Rattle.driver_reclaim.proofs.StageLaws.{in_tries, InTries, IsToLeave, to_leave, with_page}
use Rattle.driver_reclaim.proofs.StandLaws.{keeps_of}

-- ---- holds

held_below : (j : JobView) (past : List Entry) (ev : Event) (g : Page) (p : ℕ)
    → is_held_below j (by_reclaimer ev ∷ past) g p ≡ is_held_below j past g p
held_below j past ev g zero = refl
held_below j past ev g (suc p) = rw (held_below j past ev g p) refl

-- the reclaimer holds nothing
held_stays : (j : JobView) (past : List Entry) (ev : Event) (g : Page) → is_held j (by_reclaimer ev ∷ past) g ≡ is_held j past g
held_stays j past ev g = rw (held_below j past ev g (length j.scripts)) refl

pub with_held : (j : JobView) (past : List Entry) (d d' : Driver) (ev : Event) → d'.active.own ≡ d.active.own
    → ((g : Page) → is_held_by d.active.own g ≡ is_held j past g)
    → ShowsTables (drivers j) j d' (by_reclaimer ev ∷ past) → Shows j d' (by_reclaimer ev ∷ past)
with_held j past d d' ev own held t = record {
  tables = t;
  held = λ g. ap (λ o. is_held_by o g) own ∙ held g ∙ sym (held_stays j past ev g);
}

-- ---- entries that change no table

counts_quiet : (past : List Entry) (ev : Event) (n : ℕ) → is_slotless ev ≡ true → CountMoves past ev n n
counts_quiet past (Did (EwbStart f at) answer) n h = cc
counts_quiet past (Did (Eld f) (Moved page version tag)) n h = cc
counts_quiet past (Refused (EwbStart f at) (why.SlotOccupied version)) n h = cc
counts_quiet past _ n h = refl

quiet : (j : JobView) (past : List Entry) (d : Driver) (ev : Event) → is_quiet ev ≡ true → is_slotless ev ≡ true → is_markless ev ≡ true
    → Shows j d past → ShowsEntry j past (by_reclaimer ev) d d
quiet j past d ev q sl mark s = record {
  shows = with_held j past d d ev refl s.held (shows_quiet_entry (drivers j) j d past ev q sl mark s.tables);
  counts = counts_quiet past ev (count_out d.slots) sl;
}

kicks_shown : (j : JobView) (d : Driver) (ps : List ℕ) (h : List Entry) → Shows j d h → Shows j d (kicked_past ps h)
kicks_shown j d [] h s = s
kicks_shown j d (p ∷ ps) h s =
    kicks_shown j d ps (by_reclaimer (Kick (cpu_of p)) ∷ h) (quiet j h d (Kick (cpu_of p)) refl refl refl s).shows

shows_of : (j : JobView) (past : List Entry) (e : Entry) (ev : Event) (d d' : Driver) → ShowsEntry j past e d d'
    → ShowsAfter j past d (turn_of e ev) d'
shows_of j past e (Did (actions.EwbStart f slot) answer) d d' k = k
shows_of j past e (Refused action (why.NotTracked epoch older)) d d' k = k
shows_of j past e (Refused action (why.SlotOccupied version)) d d' k = k
shows_of j past e (Refused action refusal) d d' k = k
shows_of j past e ev d d' k = k

-- ---- a version array page that is due

-- each of its slots is out
due_full : (j : JobView) (past : List Entry) (out : Outs) (o : Option Event) (g : Page) → due_by j past out o ≡ Some g → is_va_page g ≡ true
    → is_full out g.number ≡ true
due_full j past out o g is array = by_event o is
  where
    by_least : (l : Option ℕ) → least_from (is_spare j past out) 0 (vas_made past) ≡ l → array_at l ≡ Some g → is_full out g.number ≡ true
    by_least None least h = cc
    by_least (Some va) least h =
        let passes = least_passes (is_spare j past out) 0 (vas_made past) va least in
        subst (λ n. is_full out n ≡ true) (ap (λ (p : Page). p.number) (same_Some (va_page va) g h))
        (both_true _ (is_full out va) (both_true _ _ (both_true _ _ passes).0).0).1

    by_spare : spare j past out ≡ Some g → is_full out g.number ≡ true
    by_spare h = by_least (least_from (is_spare j past out) 0 (vas_made past)) refl h

    by_alone : (page : Page) (b : Bool) → (is_own_page page && is_alone j past page.enclave) ≡ b
        → (if b then Some (secs_page page.enclave) else spare j past out) ≡ Some g → is_full out g.number ≡ true
    by_alone page false at h = by_spare h
    by_alone page true at h =
        absurd (false≢true (sym (own_none page (both_true (is_own_page page) (is_alone j past page.enclave) at).0).1
        ∙ ap is_va_page (same_Some (secs_page page.enclave) g h) ∙ array))

    by_secs : (b : Bool) → (if b then spare j past out else None) ≡ Some g → is_full out g.number ≡ true
    by_secs true h = by_spare h
    by_secs false h = cc

    by_event : (o : Option Event) → due_by j past out o ≡ Some g → is_full out g.number ≡ true
    by_event (Some (Did (Ewb f) (Moved page version tag))) h = by_alone page (is_own_page page && is_alone j past page.enclave) refl h
    by_event (Some (Age page looks.NoRoom)) h = by_secs (is_secs_page page) h
    by_event _ h = cc

full_out : (out : Outs) (va index : ℕ) → is_full out va ≡ true → index < 512 → out (record { va = va; index = index }) ≡ true
unfolding is_full
full_out out va index full low = by_test (out (record { va = va; index = index })) refl
  where
    by_test : (b : Bool) → out (record { va = va; index = index }) ≡ b → b ≡ true
    by_test true is = refl
    by_test false is =
        absurd (false≢true (sym (ap not (any_below-some (λ i. not (out (record { va = va; index = i }))) 512 index low (ap not is)))
        ∙ full))

module _ (made : Making) (j : JobView) (past : List Entry) (v v' : PassView) (d d' : Driver) (m m' : Parts) (turn : PassTurn)
    (r : Ready made j past v d m) where
  now : Shows j d past
  now = record { tables = r.agrees.shows; held = r.held }

  abbrev After : PassTurn → Type 0
  After x = ShowsAfter j past d x d'

  abbrev Entry' : Event → Type 0
  Entry' ev = ShowsEntry j past (by_reclaimer ev) d d'

  -- by the event of a turn
  entered : (ev : Event) → turn ≡ turn_of (by_reclaimer ev) ev → Entry' ev → After turn
  entered ev told k = subst After (sym told) (shows_of j past (by_reclaimer ev) ev d d' k)

  unchanged : (ev : Event) → d' ≡ d → is_quiet ev ≡ true → is_slotless ev ≡ true → is_markless ev ≡ true → Entry' ev
  unchanged ev same q sl mark = subst (ShowsEntry j past (by_reclaimer ev) d) (sym same) (quiet j past d ev q sl mark now)

  -- ---- looks

  look_shown : IsScanned v d turn v' d' → (IsWait turn → d' ≡ d) → After turn
  look_shown (inr none) waits = subst After (sym none.1) (waits (subst IsWait (sym none.1) tt))
  look_shown (inl k) waits = entered (Age k.page k.look) k.told (record {
    shows = with_held j past d d' (Age k.page k.look) (own k.look k.tables) r.held
        (shows_looked (drivers j) j d d' past k.page head r.agrees.sound r.agrees.shows k.look k.tables
        (r.agrees.shows.placed k.page (ap is_absent here.1)));
    counts = counts k.look k.tables;
  })
    where
      head : head_of (active past) ≡ Some k.page
      head = sym (heads past d.active.pages (active past) r.agrees.shows.list) ∙ k.head

      here : (f : ℕ) × (place past k.page ≡ Here f)
      here = head_here (active past) (place past) k.page r.agrees.sound.list head

      own : (look : Look) → IsLooked d k.page look d' → d'.active.own ≡ d.active.own
      own looks.Taken t = t.list.own
      own looks.Young t = ap (λ (x : Driver). x.active.own) t
      own looks.Held t = ap (λ (x : Driver). x.active.own) t
      own looks.NoRoom t = ap (λ (x : Driver). x.active.own) t

      counts : (look : Look) → IsLooked d k.page look d' → count_out d'.slots ≡ count_out d.slots
      counts looks.Taken t = ap (λ (x : Driver). count_out x.slots) t.others
      counts looks.Young t = ap (λ (x : Driver). count_out x.slots) t
      counts looks.Held t = ap (λ (x : Driver). count_out x.slots) t
      counts looks.NoRoom t = ap (λ (x : Driver). count_out x.slots) t

  due_shown : (page : Page) → due_with j past (outs_kept j past) ≡ Some page → TurnKeeps made.first_epoch j past turn
      → IsDueLook page v d turn v' d' → After turn
  due_shown page is kept k = entered (Age page k.look) k.told (record {
    shows = with_held j past d d' (Age page k.look) (own k.look k.tables) r.held
        (shows_looked_aside (drivers j) j d d' past page (due_aside made j past v d m r page is) r.agrees.sound r.agrees.shows k.look
        (subst (TurnKeeps made.first_epoch j past) k.told kept).can (full k.look) k.tables);
    counts = counts k.look k.tables;
  })
    where
      own : (look : Look) → IsLookedAside d page look d' → d'.active.own ≡ d.active.own
      own looks.Taken t = ap (λ (x : Driver). x.active.own) t
      own looks.Young t = ap (λ (x : Driver). x.active.own) t
      own looks.Held t = ap (λ (x : Driver). x.active.own) t
      own looks.NoRoom t = ap (λ (x : Driver). x.active.own) t

      counts : (look : Look) → IsLookedAside d page look d' → count_out d'.slots ≡ count_out d.slots
      counts looks.Taken t = ap (λ (x : Driver). count_out x.slots) t
      counts looks.Young t = ap (λ (x : Driver). count_out x.slots) t
      counts looks.Held t = ap (λ (x : Driver). count_out x.slots) t
      counts looks.NoRoom t = ap (λ (x : Driver). count_out x.slots) t

      -- a version array page leaves with each of its slots out
      full_now : is_va_page page ≡ true → (s : VaSlot) → s.va ≡ page.number → is_ours d.slots s ≡ true → is_out d.slots s ≡ true
      full_now array s its ours =
          out_is made j past v d m r s ours
          ∙ full_out (outs_kept j past) s.va s.index
          (subst (λ n. is_full (outs_kept j past) n ≡ true) (sym its)
          (due_full j past (outs_kept j past) (last_event past actors.Reclaimer) page is array))
          (ltb-true s.index 512 (both_true (nat_le (first_kept j s.va) s.index) (nat_lt s.index 512)
          (both_true (nat_lt s.va (vas_made past)) (nat_le (first_kept j s.va) s.index && nat_lt s.index 512)
          (sym (r.agrees.shows.slots.ours s) ∙ ours)).1).1)

      full : (look : Look) → LeavesFull d.slots (Age page look)
      full looks.Taken = full_now
      full looks.Young = tt
      full looks.Held = tt
      full looks.NoRoom = tt

  -- ---- blocks and tracks

  block_shown : (one : Taken) → IsMadeTurn (actions.Block one.frame) v (state_of m) turn v' (state_of m') → d' ≡ d → After turn
  block_shown one k same = by_entry (step_entry (state_of m) (state_of m') actors.Reclaimer (Block one.frame) k.entry k.step)
    where
      by_entry : IsEntryOf actors.Reclaimer (Block one.frame) k.entry → After turn
      by_entry (inl (answer, is)) =
          entered (Did (Block one.frame) answer) (k.told ∙ ap (λ (x : Entry). turn_of x x.event) is)
          (unchanged (Did (Block one.frame) answer) same refl refl refl)
      by_entry (inr (refusal, is)) =
          entered (Refused (Block one.frame) refusal) (k.told ∙ ap (λ (x : Entry). turn_of x x.event) is)
          (unchanged (Refused (Block one.frame) refusal) same refl refl refl)

  track_shown : (enclave : ℕ) → IsMadeTurn (actions.Track enclave) v (state_of m) turn v' (state_of m') → d' ≡ d → After turn
  track_shown enclave k same = by_entry (step_entry (state_of m) (state_of m') actors.Reclaimer (Track enclave) k.entry k.step)
    where
      by_entry : IsEntryOf actors.Reclaimer (Track enclave) k.entry → After turn
      by_entry (inl (answer, is)) =
          entered (Did (Track enclave) answer) (k.told ∙ ap (λ (x : Entry). turn_of x x.event) is)
          (unchanged (Did (Track enclave) answer) same refl refl refl)
      by_entry (inr (refusal, is)) =
          entered (Refused (Track enclave) refusal) (k.told ∙ ap (λ (x : Entry). turn_of x x.event) is)
          (unchanged (Refused (Track enclave) refusal) same refl refl refl)

  -- ---- tries

  kept_event : (ev : Event) → TurnKeeps made.first_epoch j past turn → turn ≡ turn_of (by_reclaimer ev) ev
      → KeepsReclaim made.first_epoch j past ev
  kept_event ev kept told =
      keeps_of made.first_epoch j past (by_reclaimer ev) ev (subst (TurnKeeps made.first_epoch j past) told kept)

  try_shown : (one : Taken) → is_own_page one.page ≡ true → place past one.page ≡ Leaving one.frame.0 → IsTaken past true one.page
      → TurnKeeps made.first_epoch j past turn → (IsWait turn → d' ≡ d)
      → IsTryTurn one v d (state_of m) turn v' d' (state_of m') → After turn
  try_shown one own at w kept waits (inr none) = subst After (sym none.1) (waits (subst IsWait (sym none.1) tt))
  try_shown one own at w kept waits (inl k) =
      by_entry (step_entry (state_of m) (state_of m') actors.Reclaimer (EwbStart one.frame k.tried.at) k.entry k.tried.step)
    where
      t : IsTried (state_of m) d one.frame k.entry d' (state_of m')
      t = k.tried

      its : IsHereAt past t.slot t.at
      its = (free_at made j past d m r.agrees t.slot t.at t.ours t.named).0

      found : slot_found (content past) t.at ≡ Some t.slot
      found = its.found

      -- the keeper's slots are each one of 512
      within : nat_lt t.at.index 512 ≡ true
      within = ap (λ n. nat_lt n 512) its.index ∙ ours_within (drivers j) j d.slots past t.slot r.agrees.shows.slots t.ours

      none : open_start past one.frame.0 ≡ None
      none = (in_frame past true one.page one.frame.0 at w).1

      held : IsHeld (content past one.frame.0) one.page
      held = own_held (content past one.frame.0) one.page own
          (holds_here past one.page (Leaving one.frame.0) one.frame.0 r.agrees.sound at (eq-eqb one.frame.0 one.frame.0 refl))

      mine : is_own_there (content past one.frame.0) ≡ true
      mine = ap is_own_held (ap page_there held.holds) ∙ own

      slots : (ev : Event) → k.entry ≡ by_reclaimer ev → SlotsAfter d.slots t.slot (keeps_slot ev) d'.slots
      slots ev is = subst (λ (x : Entry). SlotsAfter d.slots t.slot (keeps_slot x.event) d'.slots) is t.slots

      same_own : d'.active.own ≡ d.active.own
      same_own = ap (λ (x : Driver). x.active.own) t.others

      takes_it : Takes d.slots t.slot d'.slots → TakesIf d.slots t.slot d'.slots
      takes_it takes = (λ ours. takes, λ other. absurd (false≢true (sym other ∙ t.ours)))

      -- the slot was given back
      given : (ev : Event) → is_quiet ev ≡ true → is_markless ev ≡ true
          → ShowsSlots (drivers j) j d'.slots (by_reclaimer ev ∷ past) → ShowsTables (drivers j) j d' (by_reclaimer ev ∷ past)
      given ev q mark shown =
          shows_still (drivers j) j d d' past (by_reclaimer ev) r.agrees.shows (λ g. place-quiet past (by_reclaimer ev) g q)
          (ap (λ (x : Driver). x.states) t.others)
          (record {
            active = ap (λ (x : Driver). x.active.counts) t.others;
            rooms = ap (λ (x : Driver). length x.kept) t.others;
            marks = ap (λ (x : Driver). x.marks) t.others;
            cpus = ap (λ (x : Driver). x.cpus) t.others;
            enclaves = ap (λ (x : Driver). x.enclaves) t.others;
            arrays = ap (λ (x : Driver). x.va_pages) t.others;
          }) (record {
            list =
                ap (λ (x : Driver). map listed x.active.pages) t.others ∙ r.agrees.shows.list
                ∙ sym (listed-quiet past (by_reclaimer ev) mark);
            slots = shown;
            copies = λ p. ap (λ (x : Driver). page_kept (kept_at x.kept p)) t.others ∙ r.agrees.shows.copies p;
          })

      refused : (refusal : Refusal) → SlotsAfter d.slots t.slot (keeps_slot (Refused (EwbStart one.frame t.at) refusal)) d'.slots
          → Entry' (Refused (EwbStart one.frame t.at) refusal)
      refused (why.SlotOccupied version) takes = record {
        shows = with_held j past d d' (Refused (EwbStart one.frame t.at) (why.SlotOccupied version)) same_own r.held
            (shows_occupied (drivers j) j d d' past one.frame t.at version r.agrees.sound r.agrees.stand
            (t.slot, found, takes_it takes) t.others r.agrees.shows);
        counts = takes.counted;
      }
      refused refusal same = record {
        shows = with_held j past d d' (Refused (EwbStart one.frame t.at) refusal) same_own r.held
            (given (Refused (EwbStart one.frame t.at) refusal) refl refl
            (stays_shown (drivers j) j d.slots d'.slots past (by_reclaimer (Refused (EwbStart one.frame t.at) refusal)) r.agrees.sound tt tt
            r.agrees.stand tt tt same r.agrees.shows.slots));
        counts = same.counted;
      }

      by_entry : IsEntryOf actors.Reclaimer (EwbStart one.frame t.at) k.entry → After turn
      by_entry (inl (answer, is)) =
          let ev : Event = Did (EwbStart one.frame t.at) answer in
          let told : turn ≡ turn_of (by_reclaimer ev) ev = k.told ∙ ap (λ (x : Entry). turn_of x x.event) is in
          let takes = slots ev is in
          entered ev told (record {
            shows = with_held j past d d' ev same_own r.held
                (shows_started (drivers j) j d d' past one.frame t.at answer (kept_event ev kept told).can none within r.agrees.sound
                (t.slot, found, takes_it takes) t.others r.agrees.shows);
            counts = takes.counted ∙ ap (λ b. count_out d.slots + (if b then 1 else 0)) (sym mine);
          })
      by_entry (inr (refusal, is)) =
          entered (Refused (EwbStart one.frame t.at) refusal) (k.told ∙ ap (λ (x : Entry). turn_of x x.event) is)
          (refused refusal (slots (Refused (EwbStart one.frame t.at) refusal) is))

  third_shown : (n : ℕ) (one : Taken) → is_own_page one.page ≡ true → place past one.page ≡ Leaving one.frame.0
      → IsTaken past true one.page → TurnKeeps made.first_epoch j past turn → (IsWait turn → d' ≡ d)
      → ThirdSays n one v d (state_of m) turn v' d' (state_of m') → After turn
  third_shown zero one own at w kept waits k = try_shown one own at w kept waits k
  third_shown (suc n) one own at w kept waits k = subst After (sym k) (waits (subst IsWait (sym k) tt))

  form_shown : (next : ℕ) (form : Form) (t : InTries made.first_epoch j past v next form) → v.aside ≡ asides.None
      → TurnKeeps made.first_epoch j past turn
      → (IsWait turn → d' ≡ d) → FormSays form t.one v d m turn v' d' m' → After turn
  form_shown next forms.First t alone kept waits k = try_shown t.one (t.own alone) t.at t.has.page kept waits k
  form_shown next forms.Second t alone kept waits k = try_shown t.one (t.own alone) t.at t.has.page kept waits k
  form_shown next forms.Track t alone kept waits k = track_shown t.one.page.enclave k.0 k.1
  form_shown next (forms.Kick epoch false) t alone kept waits k =
      subst After (sym k.0.told) (λ ps due. kicks_shown j d' ps past (subst (λ x. Shows j x past) (sym k.1.0) now))
  form_shown next (forms.Kick epoch true) t alone kept waits k = third_shown _ t.one (t.own alone) t.at t.has.page kept waits k
  form_shown next (forms.Third epoch) t alone kept waits k = third_shown _ t.one (t.own alone) t.at t.has.page kept waits k
  form_shown next (forms.Kicks epoch place) t alone kept waits k = absurd k
  form_shown next forms.Sealing t alone kept waits k = absurd k

  stage_shown : v.aside ≡ asides.None → (stage : Stage) → v.stage ≡ stage → TurnKeeps made.first_epoch j past turn → (IsWait turn → d' ≡ d)
      → StageSays stage v d m turn v' d' m' → After turn
  stage_shown alone (stages.Idle false) is kept waits k = subst After (sym k) (waits (subst IsWait (sym k) tt))
  stage_shown alone (stages.Idle true) is kept waits (inl k) = look_shown k.1 waits
  stage_shown alone (stages.Idle true) is kept waits (inr k) = subst After (sym k.1) (waits (subst IsWait (sym k.1) tt))
  stage_shown alone (stages.Scan left) is kept waits k = look_shown k waits
  stage_shown alone (stages.Block next) is kept waits k = by_page (taken_at v next) k
    where
      by_page : (o : Option Taken) → WithPage o (turn ≡ turns.Again reasons.AllHeld)
          (λ one. IsMadeTurn (actions.Block one.frame) v (state_of m) turn v' (state_of m') × (d' ≡ d)) → After turn
      by_page None told = subst After (sym told) (waits (subst IsWait (sym told) tt))
      by_page (Some one) says = block_shown one says.0 says.1
  stage_shown alone (stages.Tries next form) is kept waits k =
      let t = in_tries made j past v d m r next form is in
      form_shown next form t alone kept waits
      (with_page (taken_at v next) t.one (turn ≡ turns.Again reasons.AllHeld) (λ one. FormSays form one v d m turn v' d' m') t.found k)

  -- ---- beside the passes

  start_shown : (one : Taken) → v.aside ≡ asides.ToGo one → TurnKeeps made.first_epoch j past turn
      → IsAsideTurn one v d (state_of m) turn v' (state_of m') → d' ≡ d → After turn
  start_shown one is kept k same =
      by_entry (step_entry (state_of m) (state_of m') actors.Reclaimer (EwbStart one.frame k.started.at) k.entry k.started.step)
    where
      at : SlotAt
      at = k.started.at

      t : IsToLeave past one
      t = to_leave made j past v d m one r is

      its : IsHereAt past (fixed_slot j one.page) at
      its = fixed_at made j past d m r.agrees one t.other t.at t.none at k.started.named

      found : slot_found (content past) at ≡ Some (fixed_slot j one.page)
      found = its.found

      within : nat_lt at.index 512 ≡ true
      within =
          ap (λ n. nat_lt n 512) its.index
          ∙ fixed_within (drivers j) j d past one.page r.agrees.shows (r.agrees.shows.placed one.page (ap is_absent t.at)) t.other

      not_mine : is_own_there (content past one.frame.0) ≡ false
      not_mine =
          ap is_own_held (there_page (page_there (content past one.frame.0)) one.page
          (holds_here past one.page (Leaving one.frame.0) one.frame.0 r.agrees.sound t.at (eq-eqb one.frame.0 one.frame.0 refl)))
          ∙ t.other

      not_ours : is_ours d.slots (fixed_slot j one.page) ≡ false
      not_ours = fixed_aside j d past one.page r.agrees.shows (r.agrees.shows.placed one.page (ap is_absent t.at)) t.other

      done : (answer : Answer) → KeepsReclaim made.first_epoch j past (Did (EwbStart one.frame at) answer)
          → ShowsEntry j past (by_reclaimer (Did (EwbStart one.frame at) answer)) d d
      done answer keeps = record {
        shows = with_held j past d d (Did (EwbStart one.frame at) answer) refl r.held
            (shows_started (drivers j) j d d past one.frame at answer keeps.can t.none within r.agrees.sound
            (fixed_slot j one.page, found, takes_none d.slots (fixed_slot j one.page) not_ours) refl r.agrees.shows);
        counts = let none : count_out d.slots ≡ count_out d.slots + 0 = omega arith in
            none ∙ ap (λ b. count_out d.slots + (if b then 1 else 0)) (sym not_mine);
      }

      refused : (refusal : Refusal) → IsAhead j past (ages.TriesNext one.page) (Refused (EwbStart one.frame at) refusal)
          → ShowsEntry j past (by_reclaimer (Refused (EwbStart one.frame at) refusal)) d d
      refused why.VersionSpent age = quiet j past d (Refused (EwbStart one.frame at) why.VersionSpent) refl refl refl now
      refused refusal age = absurd age

      by_entry : IsEntryOf actors.Reclaimer (EwbStart one.frame at) k.entry → After turn
      by_entry (inl (answer, eq)) =
          let ev : Event = Did (EwbStart one.frame at) answer in
          let told : turn ≡ turn_of (by_reclaimer ev) ev = k.told ∙ ap (λ (x : Entry). turn_of x x.event) eq in
          entered ev told (subst (ShowsEntry j past (by_reclaimer ev) d) (sym same) (done answer (kept_event ev kept told)))
      by_entry (inr (refusal, eq)) =
          let ev : Event = Refused (EwbStart one.frame at) refusal in
          let told : turn ≡ turn_of (by_reclaimer ev) ev = k.told ∙ ap (λ (x : Entry). turn_of x x.event) eq in
          entered ev told (subst (ShowsEntry j past (by_reclaimer ev) d) (sym same)
          (refused refusal
          (subst (λ x. IsAhead j past x ev) (ap (λ x. ahead_by x (due_with j past (outs_kept j past))) t.going)
          (kept_event ev kept told).age)))

  -- ---- all of it

  due_or_pass : v.aside ≡ asides.None → TurnKeeps made.first_epoch j past turn → (IsWait turn → d' ≡ d) → (o : Option Page)
      → due_in d (state_of m) v.behind ≡ o → DueSays o v d m turn v' d' m' → After turn
  due_or_pass alone kept waits (Some page) is k = due_shown page (sym (due_is made j past v d m r) ∙ is) kept k
  due_or_pass alone kept waits None is k = stage_shown alone v.stage refl kept waits k

  pub turn_shown : TurnSays v d m turn v' d' m' → (IsWait turn → d' ≡ d) → After turn
  turn_shown k waits = by_aside v.aside refl k
    where
      kept : TurnKeeps made.first_epoch j past turn
      kept = turn_keeps made j past v v' d d' m m' turn r k

      by_aside : (x : Aside) → v.aside ≡ x → AsideSays x v d m turn v' d' m' → After turn
      by_aside (asides.ToGo one) is says = start_shown one is kept says.0 says.1
      by_aside (asides.Going one) is says = absurd says
      by_aside asides.None is says = due_or_pass is kept waits (due_in d (state_of m) v.behind) refl says
