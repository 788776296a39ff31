-- The entry of a turn of a pass is the next of what driver and machine agree on.
use Rattle.std.proofs.Common.{◌≡◌, ◌≤◌, ◌<◌, ◌+◌, ◌==◌, ◌^◌, inl, inr, ℕ, Bool, true, false}
use Rattle.std.proofs.Common.{if◌then◌else◌, not, refl, sym, ◌∙◌, ap, subst, List, [], ◌∷◌, Option, Some, None, is_some}
use Rattle.std.proofs.Common.{length, arith, nat_lt}
use Rattle.sgx_rules.specs.declared.entries.Action.TheVariants.{Block, Track, EwbStart, Ewb}
use Rattle.sgx_types.specs.declared.names.Actor.TheVariants as actors
use Rattle.sgx_rules.specs.declared.entries.Answer.TheVariants as answers
use Rattle.sgx_rules.specs.declared.entries.Entry.{Entry}
use Rattle.sgx_rules.specs.declared.entries.Event.TheVariants.{Did, Refused}
use Rattle.sgx_types.specs.declared.names.Page.{Page}
use Rattle.sgx_types.specs.declared.names.SlotAt.{SlotAt}
use Rattle.sgx_types.specs.declared.names.VaSlot.{VaSlot}
use Rattle.sgx_types.specs.declared.names.TheConstants.{LAST_EPOCH}
use Rattle.sgx_types.specs.Pages.{is_own_page}
use Rattle.sgx_rules.specs.declared.refusals.Refusal.TheVariants as why
use Rattle.sgx_rules.specs.inner.Enclaves.{created}
use Rattle.sgx_rules.specs.Epochs.{epoch, epoch_in}
use Rattle.sgx_rules.specs.Eviction.{is_drained, kept_back}
use Rattle.sgx_rules.specs.Frames.{added, content}
use Rattle.sgx_types.specs.Making.{Making}
use Rattle.sgx_rules.specs.inner.Rules.{LoadsAwayRule}
use Rattle.sgx_rules.specs.Slots.{next_version}
use Rattle.sgx_rules.specs.Starts.{open_start, slot_found}
use Rattle.job_grammar.specs.Jobs.{JobView}
use Rattle.machine_laws.proofs.ColumnLaws.{added_is}
use Rattle.sgx_machine.specs.inner.Parts.{Parts, state_of}
use Rattle.driver_slots.specs.inner.Keeper.{is_ours, Keeper}
use Rattle.sgx_types.specs.Pages.{frame_at}
use Rattle.driver_rules.specs.Ages.{ahead_by, head_of}
use Rattle.driver_rules.specs.declared.waits.Why.TheVariants as waits
use Rattle.driver_rules.specs.Dues.{Ends, Makes, TriesOut, Waits}
use Rattle.driver_rules.specs.Passes.{Between, Blocking, First, Form, Kicks, Pass, Scan, Sealing, Second, Third, ToKick, ToTrack}
use Rattle.driver_rules.specs.Passes.{Tries}
use Rattle.driver_rules.specs.Passes.{Aside, aside, IsGoing, IsToGo, keepers, NoneAside, pass}
use Rattle.driver_rules.specs.Spares.{due_with, outs_kept}
use Rattle.driver_rules.specs.Places.{Absent, Away, Here, Leaving, Loading, Place, active, frame_leaving, place}
use Rattle.driver_rules.specs.inner.Reclaims.{ahead_gives, are_held, form_due, going_due, in_frame, leaving_due, look_at, look_due}
use Rattle.driver_rules.specs.inner.Reclaims.{pass_due, third_due, tries_out}
use Rattle.driver_rules.specs.Scripts.{is_load}
use Rattle.driver_rules.specs.Stops.{is_spent}
use Rattle.driver_rules.specs.inner.Slotted.{fixed_slot}
use Rattle.driver_laws.specs.inner.Agrees.{drivers}
use Rattle.driver_laws.specs.inner.Inits.{InitTells}
use Rattle.driver_laws.specs.inner.Sound.{is_absent}
use Rattle.driver_laws.specs.inner.Stages.{HasAside, HasPages, IsTaken, IsTrying}
use Rattle.driver_laws.specs.inner.Tracking.{TrackingRule}
use Rattle.driver_laws.specs.inner.Tracks.{IsCalm, IsUntracked, KeepsTracks}
use Rattle.driver_laws.specs.inner.Used.{StartTells}
use Rattle.driver_laws.proofs.KeeperTakes.{found_index, ours_within}
use Rattle.driver_laws.proofs.BuiltLaws.{own_there}
use Rattle.driver_laws.proofs.EpochLaws.{none_older}
use Rattle.driver_tables.specs.declared.driver.Driver.{Driver}
use Rattle.driver_tables.proofs.TargetLaws.{fixed_within}
use Rattle.driver_tables.specs.inner.Agrees.{Agrees}
use Rattle.driver_tables.specs.inner.Asked.{IsNextOf}
use Rattle.driver_tables.specs.inner.Carried.{Carries}
use Rattle.driver_tables.proofs.PartLaws.{added_created}
use Rattle.driver_reclaim.specs.declared.turns.PassTurn.{PassTurn}
use Rattle.driver_reclaim.specs.declared.turns.PassTurn.TheVariants as turns
use Rattle.driver_reclaim.specs.inner.Answers.{by_reclaimer, IsTryOut, IsTurn, start_turn, track_turn, try_turn}
use Rattle.driver_reclaim.specs.inner.Going.{TurnGoes}
use Rattle.driver_reclaim.specs.inner.Kept.{KeepsReclaim, TurnKeeps}
use Rattle.driver_reclaim.specs.inner.Shown.{ShowsAfter, ShowsEntry}
use Rattle.run_laws.specs.inner.Turns.{OfEntry}
use Rattle.run_laws.proofs.PlainLaws.{enclave_is}
use Rattle.machine_copies.proofs.DrawnLaws.{first_below}

-- what an entry of the reclaimer is, besides what its turn keeps
record IsOwn (first : ℕ) (past : List Entry) (e : Entry) : Type 0 where
  actor_is : e.actor ≡ actors.Reclaimer
  starts : StartTells past e.event
  inits : InitTells past e.event
  tracking : TrackingRule first past e
  no_load : is_load e.event ≡ false
  loads : LoadsAwayRule past e

module _ (made : Making) (j : JobView) (past : List Entry) (slots : Keeper) (turn : PassTurn) (positive : 1 ≤ made.first_version)
    (theirs : (g : Page) → IsUntracked past g → is_some (created past g.enclave) ≡ true)
    (ours : (s : VaSlot) → is_ours slots s ≡ true → nat_lt s.index 512 ≡ true)
    (fixed : (g : Page) (f : ℕ) → place past g ≡ Leaving f → is_own_page g ≡ false → nat_lt (fixed_slot j g).index 512 ≡ true) where
  abbrev Mine : Type 0
  Mine = OfEntry turn (IsOwn made.first_epoch past)

  told : (to : PassTurn) → turn ≡ to → OfEntry to (IsOwn made.first_epoch past) → Mine
  told to is own = subst (λ t. OfEntry t (IsOwn made.first_epoch past)) (sym is) own

  looks : (o : Option Page) → IsTurn made j past slots (look_at j past o) turn → Mine
  looks None l = told _ l tt
  looks (Some g) l = told _ l.told
      (record { actor_is = refl; starts = tt; inits = tt; tracking = record { stay = tt; track = tt }; no_load = refl; loads = tt })

  blocks : (g : Page) → IsTurn made j past slots (leaving_due past g (λ f. Makes (Block (frame_at f)))) turn → Mine
  blocks g k = by_frame (frame_leaving (place past g)) k
    where
      by_frame : (o : Option ℕ) → IsTurn made j past slots (in_frame g o (λ f. Makes (Block (frame_at f)))) turn → Mine
      by_frame None l = told _ l tt
      by_frame (Some f) l = told _ l
          (record { actor_is = refl; starts = tt; inits = tt; tracking = record { stay = tt; track = tt }; no_load = refl; loads = tt })

  tracks : (enclave : ℕ) → is_some (created past enclave) ≡ true → IsCalm past enclave
      → turn ≡ track_turn made.first_epoch past enclave → Mine
  tracks enclave made_it calm k = told _ k (by_last (epoch made.first_epoch past enclave == LAST_EPOCH) refl)
    where
      by_last : (b : Bool) → (epoch made.first_epoch past enclave == LAST_EPOCH) ≡ b
          → OfEntry (if b then turns.Spent (by_reclaimer (Refused (Track enclave) why.EpochSpent))
          else turns.One (by_reclaimer (Did (Track enclave) answers.Plain))) (IsOwn made.first_epoch past)
      by_last true is =
          record { actor_is = refl; starts = tt; inits = tt; tracking = record { stay = tt; track = tt }; no_load = refl; loads = tt }
      by_last false is = record {
        actor_is = refl;
        starts = tt;
        inits = tt;
        tracking = record { stay = tt; track = record { made = made_it; none_older = none_older past enclave calm; not_last = is } };
        no_load = refl;
        loads = tt;
      }

  -- ---- tries

  start_own : (f : ℕ) (at : SlotAt) → open_start past f ≡ None → nat_lt at.index 512 ≡ true
      → OfEntry (start_turn made past f at) (IsOwn made.first_epoch past)
  start_own f at idle within = by_spent (next_version made.first_version past == 2 ^ 64)
    where
      drawn : 0 < next_version made.first_version past
      drawn = let low = first_below made.first_version past in omega (arith, low, positive)

      by_spent : (b : Bool) → OfEntry (if b then turns.Spent (by_reclaimer (Refused (EwbStart (frame_at f) at) why.VersionSpent))
          else turns.Seal (by_reclaimer (Did (EwbStart (frame_at f) at) (answers.Version (next_version made.first_version past)))))
          (IsOwn made.first_epoch past)
      by_spent true = record {
        actor_is = refl;
        starts = tt;
        inits = tt;
        tracking = record { stay = tt; track = tt };
        no_load = refl;
        loads = tt;
      }
      by_spent false =
          record {
            actor_is = refl;
            starts = (idle, drawn, within);
            inits = tt;
            tracking = record { stay = tt; track = tt };
            no_load = refl;
            loads = tt;
          }

  try_own : (f : ℕ) (at : SlotAt) (version : ℕ) → open_start past f ≡ None → nat_lt at.index 512 ≡ true
      → OfEntry (try_turn made past f at version) (IsOwn made.first_epoch past)
  try_own f at version idle within = by_drain (is_drained past f) (version == 0)
    where
      by_drain : (b c : Bool) → OfEntry (if b
          then (if c then start_turn made past f at
          else turns.One (by_reclaimer (Refused (EwbStart (frame_at f) at) (why.SlotOccupied version))))
          else turns.One (by_reclaimer (Refused (EwbStart (frame_at f) at)
          (why.NotTracked (epoch_in made.first_epoch past f) (kept_back past f))))) (IsOwn made.first_epoch past)
      by_drain true true = start_own f at idle within
      by_drain true false =
          record { actor_is = refl; starts = tt; inits = tt; tracking = record { stay = tt; track = tt }; no_load = refl; loads = tt }
      by_drain false c =
          record { actor_is = refl; starts = tt; inits = tt; tracking = record { stay = tt; track = tt }; no_load = refl; loads = tt }

  tries : (g : Page) (blocked : Bool) → IsTaken past blocked g → IsTurn made j past slots (tries_out past g) turn → Mine
  tries g blocked w k = by_place (place past g) refl k
    where
      idle : (f : ℕ) → place past g ≡ Leaving f → open_start past f ≡ None
      idle f at =
          let both : Leaving w.frame ≡ Leaving f = sym w.leaving ∙ at in
          let one : w.frame ≡ f = cc in
          subst (λ n. open_start past n ≡ None) one w.start

      below : (at : SlotAt) (s : VaSlot) → slot_found (content past) at ≡ Some s → nat_lt s.index 512 ≡ true → nat_lt at.index 512 ≡ true
      below at s named low = ap (λ n. nat_lt n 512) (sym (found_index past at s named)) ∙ low

      by_kind : (f : ℕ) (b : Bool) → is_own_page g ≡ b → place past g ≡ Leaving f → IsTryOut made j past slots g f b turn → Mine
      by_kind f true own at (inl l) =
          told _ l.told (try_own f l.at l.version (idle f at) (below l.at l.slot l.named (ours l.slot l.ours)))
      by_kind f true own at (inr l) = told _ l.1 tt
      by_kind f false other at l =
          told _ l.told (start_own f l.at (idle f at) (below l.at (fixed_slot j g) l.named (fixed g f at other)))

      by_place : (p : Place) → place past g ≡ p → IsTurn made j past slots (in_frame g (frame_leaving p) (TriesOut g)) turn → Mine
      by_place (Leaving f) at l = by_kind f (is_own_page g) refl at l
      by_place Absent at l = told _ l tt
      by_place (Here f) at l = told _ l tt
      by_place (Loading f slot) at l = told _ l tt
      by_place (Away slot) at l = told _ l tt

  thirds : (g : Page) (ps : List ℕ) → IsTaken past true g → IsTurn made j past slots (third_due past g ps) turn → Mine
  thirds g [] w k = tries g true w k
  thirds g (p ∷ ps) w k = told _ k tt

  ends : (g : Page) → IsTurn made j past slots (leaving_due past g (λ f. Ends (Ewb (frame_at f)))) turn → Mine
  ends g k = by_frame (frame_leaving (place past g)) k
    where
      by_frame : (o : Option ℕ) → IsTurn made j past slots (in_frame g o (λ f. Ends (Ewb (frame_at f)))) turn → Mine
      by_frame None l = told _ l tt
      by_frame (Some f) l = absurd l

  forms : (g : Page) (rest : List Page) (kicked : Bool) (form : Form) → IsTrying past g rest form → KeepsTracks past (Tries g rest form)
      → IsTurn made j past slots (form_due past g kicked form) turn → Mine
  forms g rest kicked First has calm k = tries g true has.page k
  forms g rest kicked ToTrack has calm k = tracks g.enclave (theirs g calm) (calm.calm g.enclave) k
  forms g rest kicked Second has calm k = tries g true has.page k
  forms g rest true ToKick has calm k = thirds g (keepers past g) has.page k
  forms g rest false ToKick has calm k = told _ k tt
  forms g rest kicked (Kicks ps) has calm k = told _ k tt
  forms g rest kicked Third has calm k = thirds g (keepers past g) has.page k
  forms g rest kicked Sealing has calm k = ends g k

  in_pass : (kicked : Bool) (p : Pass) → HasPages past p → KeepsTracks past p → IsTurn made j past slots (pass_due j past kicked p) turn
      → Mine
  in_pass kicked (Between false) has calm k = told _ k tt
  in_pass kicked (Between true) has calm k = by_held (are_held j past) k
    where
      by_held : (b : Bool) → IsTurn made j past slots (if b then Waits waits.AllHeld else look_due j past) turn → Mine
      by_held true l = told _ l tt
      by_held false l = looks (head_of (active past)) l
  in_pass kicked (Scan left taken) has calm k = looks (head_of (active past)) k
  in_pass kicked (Blocking [] taken) has calm k = absurd k
  in_pass kicked (Blocking (g ∷ gs) taken) has calm k = blocks g k
  in_pass kicked (Tries g rest form) has calm k = forms g rest kicked form has calm k

  -- ---- .. and beside it

  beside : (kicked : Bool) (x : Aside) (due : Option Page) → HasAside past x → HasPages past (pass j past)
      → KeepsTracks past (pass j past) → IsTurn made j past slots (ahead_gives j past kicked (ahead_by x due)) turn → Mine
  beside kicked NoneAside None aside has calm k = in_pass kicked (pass j past) has calm k
  beside kicked NoneAside (Some g) aside has calm k = told _ k.told
      (record { actor_is = refl; starts = tt; inits = tt; tracking = record { stay = tt; track = tt }; no_load = refl; loads = tt })
  beside kicked (IsToGo g) due aside has calm k = tries g false aside.1 k
  beside kicked (IsGoing g) due aside has calm k = ends g k

-- ---- the entry

-- the enclave of a page that a pass has taken was created
taken_made : {made : Making} {j : JobView} {past : List Entry} {d : Driver} {m : Parts} → Agrees made j past d m → (g : Page)
    → IsUntracked past g → is_some (created past g.enclave) ≡ true
taken_made {past = past} {m = m} r g u =
    let columns = r.follows.shape.columns in
    let there : is_some (added past g) ≡ true =
    sym (own_there past g u.waiting.own) ∙ r.sound.made g ∙ ap (λ p. not (is_absent p)) u.waiting.leaving in
    sym (ap is_some (enclave_is columns g.enclave)) ∙ added_created m g (ap is_some (added_is columns g) ∙ there)

entry_next : (made : Making) (j : JobView) (past : List Entry) (d d' : Driver) (m m' : Parts) (e : Entry) → Agrees made j past d m
    → is_spent past ≡ false → IsOwn made.first_epoch past e → KeepsReclaim made.first_epoch j past e.event
    → Carries (state_of m) e (state_of m')
    → length m'.cpus ≡ length m.cpus → ShowsEntry j past e d d' → IsNextOf made j past d m e d' m'
entry_next made j past d d' m m' e r going own keeps carries cpus shows = record {
  script = record { not_spent = going; next = rw own.actor_is own.no_load };
  age = rw own.actor_is keeps.age;
  kick = record { form = rw own.actor_is keeps.form; beside = rw own.actor_is tt };
  slots = keeps.slot;
  can = keeps.can;
  tries = keeps.tells;
  starts = own.starts;
  inits = own.inits;
  tracking = own.tracking;
  follows = carries.shape made past r.follows;
  fits = carries.fits made past r.follows own.loads r.fits;
  cpus = cpus;
  shows = shows.shows.tables;
  counts = shows.counts;
}

pub turn_next : (made : Making) (j : JobView) (past : List Entry) (d d' : Driver) (m m' : Parts) (kicked : Bool) (turn : PassTurn)
    → 1 ≤ made.first_version → Agrees made j past d m → is_spent past ≡ false
    → IsTurn made j past d.slots (going_due j past (outs_kept j past) kicked) turn → TurnKeeps made.first_epoch j past turn
    → TurnGoes (state_of m) turn (state_of m') → length m'.cpus ≡ length m.cpus → ShowsAfter j past d turn d'
    → OfEntry turn (λ e. IsNextOf made j past d m e d' m')
turn_next made j past d d' m m' kicked turn positive r going due =
    by_turn turn (beside made j past d.slots turn positive (λ g u. taken_made r g u)
    (λ s mine. ours_within (drivers j) j d.slots past s r.shows.slots mine)
    (λ g f at other. fixed_within (drivers j) j d past g r.shows (r.shows.placed g (ap is_absent at)) other) kicked (aside past)
    (due_with j past (outs_kept j past)) r.pages.aside r.pages.pages r.tracks due)
  where
    by_turn : (t : PassTurn) → OfEntry t (IsOwn made.first_epoch past) → TurnKeeps made.first_epoch j past t
        → TurnGoes (state_of m) t (state_of m') → length m'.cpus ≡ length m.cpus → ShowsAfter j past d t d'
        → OfEntry t (λ e. IsNextOf made j past d m e d' m')
    by_turn (turns.One e) mine keeps goes cpus shows = entry_next made j past d d' m m' e r going mine keeps goes cpus shows
    by_turn (turns.Seal e) mine keeps goes cpus shows = entry_next made j past d d' m m' e r going mine keeps goes cpus shows
    by_turn (turns.Spent e) mine keeps goes cpus shows = entry_next made j past d d' m m' e r going mine keeps goes cpus shows
    by_turn (turns.Kicks bits) mine keeps goes cpus shows = tt
    by_turn (turns.Again reason) mine keeps goes cpus shows = tt
