-- What a pass and the page beside it stand for behind any entry.
use Rattle.std.proofs.Common.{◌≡◌, ℕ, ◌==◌, ◌&&◌, ◌||◌, not, Bool, true, false, if◌then◌else◌, refl, sym, ◌∙◌, ap, subst}
use Rattle.std.proofs.Common.{List, [], ◌∷◌, Option, Some, None}
use Rattle.std.proofs.Common.{slice_get, drop}
use Rattle.std.proofs.lemmas.Bool.{false_from_ne_true}
use Rattle.sgx_rules.specs.declared.entries.Action.TheVariants as actions
use Rattle.sgx_types.specs.declared.names.Actor.{Actor}
use Rattle.sgx_types.specs.declared.names.Actor.TheVariants as actors
use Rattle.sgx_rules.specs.declared.entries.Answer.TheVariants.{Moved}
use Rattle.sgx_rules.specs.declared.entries.Entry.{Entry}
use Rattle.sgx_rules.specs.declared.entries.Event.{Event}
use Rattle.sgx_rules.specs.declared.entries.Event.TheVariants.{Age, Did, Kick, Refused}
use Rattle.sgx_rules.specs.declared.entries.Look.{Look}
use Rattle.sgx_rules.specs.declared.entries.Look.TheVariants as looks
use Rattle.sgx_rules.specs.declared.refusals.Refusal.{Refusal}
use Rattle.sgx_rules.specs.declared.refusals.Refusal.TheVariants as why
use Rattle.sgx_types.specs.declared.names.Page.{Page}
use Rattle.sgx_types.specs.declared.names.VaSlot.{VaSlot}
use Rattle.sgx_types.specs.Making.{Making}
use Rattle.sgx_types.specs.Pages.{is_own_page, is_secs_page, page_at, same_page, secs_page, va_page}
use Rattle.sgx_rules.specs.Epochs.{is_track}
use Rattle.sgx_rules.specs.Frames.{is_free, vas_made}
use Rattle.sgx_rules.specs.Rules.{RefusalRule}
use Rattle.sgx_rules.specs.Sights.{drain_sight_at, sight_at, slot_sight_at, use_sight_at}
use Rattle.sgx_rules.specs.Slots.{open_slot}
use Rattle.sgx_types.specs.Cases.{first_of_row}
use Rattle.sgx_rules.specs.Table.{DrainSight, FrameSight, SlotSight, UseSight, ewbstart_row, is_busy, is_out_of_range, is_own}
use Rattle.sgx_rules.specs.Table.{is_va}
use Rattle.job_grammar.specs.Jobs.{JobView}
use Rattle.sgx_machine.specs.inner.Parts.{Parts}
use Rattle.driver_rules.specs.Ages.{AgeOf, AgeRuleBy, ahead_by, IsAhead, IsEndAhead, IsLookAhead, IsOfPass, IsTryAhead}
use Rattle.driver_rules.specs.Passes as passes
use Rattle.driver_rules.specs.Passes.{Between, Pass, is_aside, pass, pass_after}
use Rattle.driver_rules.specs.Places.{Absent, after_look, Away, back_from, comes_into, gone_to, Here, is_here, Leaving, Loading, Place}
use Rattle.driver_rules.specs.Places.{place}
use Rattle.driver_rules.specs.Spares.{due_with, Outs}
use Rattle.driver_rules.specs.Stops.{last_event}
use Rattle.driver_rules.proofs.ReclaimLaws.{due_is_other}
use Rattle.driver_laws.proofs.MarkLaws.{head_own}
use Rattle.driver_laws.proofs.MoveLaws.{place-quiet}
use Rattle.driver_laws.proofs.SoundLaws.{entry_of}
use Rattle.driver_laws.proofs.OwnPassLaws.{OwnPass, pass_own}
use Rattle.driver_laws.proofs.StillLaws.{still}
use Rattle.driver_laws.specs.inner.Agrees.{Keeping}
use Rattle.driver_laws.specs.inner.Kinds.{CanMove}
use Rattle.driver_laws.specs.inner.Sound.{IsSound, is_absent}
use Rattle.driver_laws.specs.inner.Stages.{HasAside, touches}
use Rattle.driver_laws.specs.inner.Tracks.{OwnRule, is_reclaimers}
use Rattle.driver_tables.specs.declared.driver.Driver.{Driver}
use Rattle.driver_pass.specs.declared.stages.Aside.{Aside}
use Rattle.driver_pass.specs.declared.stages.Aside.TheVariants as asides
use Rattle.driver_pass.specs.declared.stages.Behind.{Behind}
use Rattle.driver_pass.specs.declared.stages.Behind.TheVariants as last
use Rattle.driver_pass.specs.declared.stages.Form.{Form}
use Rattle.driver_pass.specs.declared.stages.Form.TheVariants as forms
use Rattle.driver_pass.specs.declared.stages.Stage.{Stage}
use Rattle.driver_pass.specs.declared.stages.Stage.TheVariants as stages
use Rattle.driver_pass.specs.declared.stages.Taken.{Taken}
use Rattle.driver_tables.specs.inner.Tells.{Tells}
use Rattle.driver_pass.specs.inner.Noted.{aside_of, decided, gone_by, gone_on, kicked_by, kicked_with, passed_on, taken_by}
use Rattle.driver_pass.specs.inner.Standing.{AreInFrames, behind_of, IsAside, IsOut, StandsAt, StandsFor, TellsEpoch}
use Rattle.driver_pass.specs.inner.Viewed.{aside_by, form_in, new_view, PassView, tries_of, waiting_by}
use Rattle.driver_pass.proofs.FrameLaws.{frames_beside, frames_quiet, frames_stay, HoldsPass, pass_stays, waiting_own}
use Rattle.driver_pass.proofs.LookLaws.{taken_leaves}
use Rattle.driver_pass.proofs.NoteLaws.{own, own_goes}

-- ---- whether it works

decided_tries : (j : JobView) (free : ℕ) (ts : List Taken) (form : passes.Form)
    → passes.decided j free (tries_of ts form) ≡ tries_of ts form
decided_tries j free [] form = refl
decided_tries j free (t ∷ ts) form = refl

decided_stands : (first : ℕ) (j : JobView) (past : List Entry) (free : ℕ) (taken : List Taken) (kicks : List ℕ) (stage : Stage)
    (aside : Aside) (b : Behind) (at : Pass)
    → StandsFor first past (record { taken = taken; kicks = kicks; stage = stage; aside = aside; behind = b }) at
    → StandsFor first past (decided j.marks free (record { taken = taken; kicks = kicks; stage = stage; aside = aside; behind = b }))
    (passes.decided j free at)
decided_stands first j past free taken kicks (stages.Idle works) aside b at s = record {
  same = ap (passes.decided j free) s.same;
  frames = tt;
  stage = tt;
  aside = s.aside;
  leaves = s.leaves;
  behind = s.behind;
  out = s.out;
}
decided_stands first j past free taken kicks (stages.Scan left) aside b at s = record {
  same = ap (passes.decided j free) s.same;
  frames = s.frames;
  stage = s.stage;
  aside = s.aside;
  leaves = s.leaves;
  behind = s.behind;
  out = s.out;
}
decided_stands first j past free taken kicks (stages.Block next) aside b at s = record {
  same = ap (passes.decided j free) s.same;
  frames = s.frames;
  stage = tt;
  aside = s.aside;
  leaves = s.leaves;
  behind = s.behind;
  out = s.out;
}
decided_stands first j past free taken kicks (stages.Tries next form) aside b at s = record {
  same = ap (passes.decided j free) s.same ∙ decided_tries j free (drop next taken) (form_in kicks form);
  frames = s.frames;
  stage = s.stage;
  aside = s.aside;
  leaves = s.leaves;
  behind = s.behind;
  out = s.out;
}

pub pass_settles : (first : ℕ) (j : JobView) (past : List Entry) (v : PassView) (free count : ℕ) (at : Pass) → free ≡ count
    → StandsFor first past v at → StandsFor first past (decided j.marks free v) (passes.decided j count at)
pass_settles first j past v free count at same s =
    subst (λ n. StandsFor first past (decided j.marks free v) (passes.decided j n at)) same
    (decided_stands first j past free v.taken v.kicks v.stage v.aside v.behind at s)

-- ---- the epoch that a refusal tells

skip : (b : Bool) (refusal : Refusal) (rest found : Option Refusal) → (Some refusal ≡ found → ⊥)
    → (if b then Some refusal else rest) ≡ found → rest ≡ found
skip true refusal rest found other h = absurd (other h)
skip false refusal rest found other h = h

told_epoch : (s : FrameSight) (uses : UseSight) (slot : SlotSight) (d : DrainSight) (spent : Bool) (e o : ℕ)
    → first_of_row (ewbstart_row s uses slot d spent) ≡ Some (why.NotTracked e o) → e ≡ d.epoch
told_epoch s uses slot d spent e o h =
    let a = skip (is_out_of_range s slot) why.BadRange _ (Some (why.NotTracked e o)) (λ x. cc) h in
    let b = skip (is_busy s || slot.is_busy || uses.is_in_use) why.Conflict _ (Some (why.NotTracked e o)) (λ x. cc) a in
    let c = skip (is_free s.content) why.PgInvld _ (Some (why.NotTracked e o)) (λ x. cc) b in
    let k = skip (not (is_va slot.frame.content) || uses.is_its_own) why.BadKind _ (Some (why.NotTracked e o)) (λ x. cc) c in
    let l = skip (not (uses.children == 0)) (why.ChildPresent uses.children) _ (Some (why.NotTracked e o)) (λ x. cc) k in
    let m = skip (is_own s.content && not s.is_blocked) why.PageNotBlocked _ (Some (why.NotTracked e o)) (λ x. cc) l in
    by_test (is_own s.content && not d.is_drained) m
  where
    by_test : (b : Bool)
        → (if b then Some (why.NotTracked d.epoch d.kept_back) else if not (slot.version == 0) then Some
        (why.SlotOccupied slot.version) else if spent then Some why.VersionSpent else None) ≡ Some (why.NotTracked e o) → e ≡ d.epoch
    by_test false h = by_slot (slot.version == 0) h
      where
        by_spent : (x : Bool) → (if x then Some why.VersionSpent else None) ≡ Some (why.NotTracked e o) → e ≡ d.epoch
        by_spent true y = cc
        by_spent false y = cc

        by_slot : (x : Bool)
            → (if not x then Some (why.SlotOccupied slot.version) else if spent then Some why.VersionSpent else None) ≡ Some
            (why.NotTracked e o) → e ≡ d.epoch
        by_slot true y = by_spent spent y
        by_slot false y = cc
    by_test true h = cc

pub row_tells : (made : Making) (past : List Entry) (e : Entry) → RefusalRule made past e → TellsEpoch made.first_epoch past e.event
row_tells made past e h = by_event e.event h
  where
    by_event : (ev : Event) → RefusalRule made past (entry_of e.actor ev) → TellsEpoch made.first_epoch past ev
    by_event (Refused (actions.EwbStart f slot) (why.NotTracked told older)) m =
        told_epoch (sight_at made.frames past f.0) (use_sight_at made.frames past f.0 slot) (slot_sight_at made.frames past slot)
        (drain_sight_at made.first_epoch past f.0) _ told older m
    by_event _ m = tt

-- ---- a page that was made

-- stays made
pub still_made : (past : List Entry) (e : Entry) (g : Page) → is_absent (place past g) ≡ false → is_absent (place (e ∷ past) g) ≡ false
still_made past e g there = by_event e.event
  where
    put : (n : ℕ) (b : Bool) → is_absent (if b then Here n else place past g) ≡ false
    put n true = refl
    put n false = there

    looked : (look : Look) (p : Place) → is_absent p ≡ false → is_absent (after_look look p) ≡ false
    looked looks.Taken (Here n) h = refl
    looked looks.Taken (Leaving n) h = refl
    looked looks.Taken (Loading n slot) h = refl
    looked looks.Taken (Away slot) h = refl
    looked looks.Taken Absent h = h
    looked looks.Young p h = h
    looked looks.Held p h = h
    looked looks.NoRoom p h = h

    gone : (o : Option VaSlot) (p : Place) → is_absent p ≡ false → is_absent (gone_to o p) ≡ false
    gone None p h = h
    gone (Some slot) p h = refl

    came : (n : ℕ) (p : Place) → is_absent p ≡ false → is_absent (comes_into n p) ≡ false
    came n (Away slot) h = refl
    came n (Here m) h = refl
    came n (Leaving m) h = refl
    came n (Loading m slot) h = refl
    came n Absent h = h

    back : (n : ℕ) (p : Place) → is_absent p ≡ false → is_absent (back_from n p) ≡ false
    back n (Loading m slot) h = by_frame (m == n)
      where
        by_frame : (b : Bool) → is_absent (if b then Away slot else Loading m slot) ≡ false
        by_frame true = refl
        by_frame false = refl
    back n (Here m) h = refl
    back n (Leaving m) h = refl
    back n (Away slot) h = refl
    back n Absent h = h

    where_moved : (b : Bool) (p : Place) → is_absent p ≡ false → is_absent (if b then p else place past g) ≡ false
    where_moved true p h = h
    where_moved false p h = there

    by_event : (ev : Event) → is_absent (place (entry_of e.actor ev ∷ past) g) ≡ false
    by_event (Did (actions.Epa f) answer) = put f.0 (same_page (va_page (vas_made past)) g)
    by_event (Did (actions.Create enclave f base size) answer) = put f.0 (same_page (secs_page enclave) g)
    by_event (Did (actions.Add enclave number f kind perm init) answer) = put f.0 (same_page (page_at enclave number) g)
    by_event (Did (actions.Eld f) (Moved page version tag)) = put f.0 (same_page page g)
    by_event (Age page look) = where_moved (same_page page g) (after_look look (place past g)) (looked look (place past g) there)
    by_event (Did (actions.Ewb f) (Moved page version tag)) =
        where_moved (same_page page g) (gone_to (open_slot past f.0) (place past g)) (gone (open_slot past f.0) (place past g) there)
    by_event (Did (actions.EldStart f page slot) answer) =
        where_moved (same_page page g) (comes_into f.0 (place past g)) (came f.0 (place past g) there)
    by_event (Refused (actions.Eld f) refusal) = back f.0 (place past g) there
    by_event _ = there

out_stays : (past : List Entry) (e : Entry) (b : Behind) → IsOut past b → IsOut (e ∷ past) b
out_stays past e (last.Out page) h = still_made past e page h
out_stays past e last.NoRoom h = tt
out_stays past e last.Nothing h = tt

-- ---- somebody else's entry

touches_none : (ev : Event) (n : ℕ) → is_reclaimers ev ≡ false → touches ev n ≡ false
touches_none (Did (actions.Block f) answer) n h = cc
touches_none (Did (actions.EwbStart f slot) answer) n h = cc
touches_none (Did (actions.Ewb f) answer) n h = cc
touches_none ev n h = refl

tracks_none : (ev : Event) (n : ℕ) → is_reclaimers ev ≡ false → is_track ev n ≡ false
tracks_none (Did (actions.Track enclave) answer) n h = cc
tracks_none ev n h = refl

aside_stays : (past : List Entry) (e : Entry) (x : Aside) → IsSound past → CanMove past e.event → ((n : ℕ) → touches e.event n ≡ false)
    → IsAside past x → IsAside (e ∷ past) x
aside_stays past e asides.None s can calm h = tt
aside_stays past e (asides.ToGo t) s can calm h = (still past e t.page t.frame.0 s can (calm t.frame.0) h).leaving
aside_stays past e (asides.Going t) s can calm h = (still past e t.page t.frame.0 s can (calm t.frame.0) h).leaving

-- all stands as before
others_stand : (first : ℕ) (past : List Entry) (e : Entry) (v : PassView) (at : Pass) → IsSound past → CanMove past e.event
    → is_reclaimers e.event ≡ false → passes.aside (e ∷ past) ≡ passes.aside past
    → last_event (e ∷ past) actors.Reclaimer ≡ last_event past actors.Reclaimer → StandsFor first past v at
    → StandsFor first (e ∷ past) v at
others_stand first past e v at s can theirs beside before stands = record {
  same = held.same;
  frames = held.frames;
  stage = held.stage;
  aside = beside ∙ stands.aside;
  leaves = aside_stays past e v.aside s can (λ n. touches_none e.event n theirs) stands.leaves;
  behind = stands.behind ∙ ap behind_of (sym before);
  out = out_stays past e v.behind stands.out;
}
  where
    held : HoldsPass first (e ∷ past) v.taken v.kicks v.stage at
    held = pass_stays first past e v.taken v.kicks v.stage at (λ n. tracks_none e.event n theirs)
        (frames_stay past e (waiting_by v.taken v.stage) s can (λ n. touches_none e.event n theirs) stands.frames)
        (record { same = stands.same; frames = stands.frames; stage = stands.stage })

-- ---- an entry of the reclaimer

module _ (k : Keeping) (made : Making) (j : JobView) (past : List Entry) (d : Driver) (m : Parts) (a : Tells k made j past d m) where
  abbrev view : List Taken → List ℕ → Stage → Aside → Behind → PassView
  view taken kicks stage aside b = record { taken = taken; kicks = kicks; stage = stage; aside = aside; behind = b }

  abbrev Holds : Event → PassView → Pass → Type 0
  Holds ev v at = HoldsPass made.first_epoch (own ev ∷ past) v.taken v.kicks v.stage at

  -- what the last entry tells of the page that is due
  behind_goes : (ev : Event) (v : PassView) → (gone_on d m ev v).behind ≡ behind_of (Some ev)
  behind_goes (Age page look) v = refl
  behind_goes (Kick cpu) v = refl
  behind_goes _ v = refl

  out_goes : (ev : Event) → CanMove past ev → IsOut (own ev ∷ past) (behind_of (Some ev))
  out_goes (Did (actions.Ewb f) (Moved page version tag)) can =
      still_made past (own (Did (actions.Ewb f) (Moved page version tag))) page (ap is_absent can.0)
  out_goes (Age page looks.NoRoom) can = by_secs (is_secs_page page)
    where
      by_secs : (b : Bool) → IsOut (own (Age page looks.NoRoom) ∷ past) (if b then last.NoRoom else last.Nothing)
      by_secs true = tt
      by_secs false = tt
  out_goes _ can = tt

  -- a kick leaves the page beside the passes
  kick_beside : (v : PassView) (stage : Stage) → (kicked_by m v stage).aside ≡ v.aside
  kick_beside v (stages.Tries next form) = by_page form (slice_get v.taken next)
    where
      by_page : (form : Form) (o : Option Taken) → (kicked_with m v next form o).aside ≡ v.aside
      by_page form None = refl
      by_page (forms.Kick e is_made) (Some t) = refl
      by_page (forms.Kicks e n) (Some t) = refl
      by_page form (Some t) = refl
  kick_beside v stage = refl

  -- what goes out beside the passes
  abbrev GoesBeside : Event → PassView → Type 0
  GoesBeside ev v = (passes.aside_by ev (passes.aside past) ≡ aside_by (gone_on d m ev v).aside)
      × IsAside (own ev ∷ past) (gone_on d m ev v).aside

  -- .. and all of it
  goes : (ev : Event) (v : PassView) (at : Pass) → CanMove past ev → GoesBeside ev v → Holds ev (gone_on d m ev v) at
      → StandsFor made.first_epoch (own ev ∷ past) (gone_on d m ev v) at
  goes ev v at can beside held = record {
    same = held.same;
    frames = held.frames;
    stage = held.stage;
    aside = beside.0;
    leaves = beside.1;
    behind = behind_goes ev v;
    out = subst (IsOut (own ev ∷ past)) (sym (behind_goes ev v)) (out_goes ev can);
  }

  -- a look
  abbrev LooksBeside : Page → Look → Bool → Type 0
  LooksBeside page look b = ((if b then passes.NoneAside else passes.aside_with look page)
      ≡ aside_by (if b then asides.None else aside_of (taken_by d page look)))
      × IsAside (own (Age page look) ∷ past) (if b then asides.None else aside_of (taken_by d page look))

  here_frame : (p : Place) → is_here p ≡ true → (n : ℕ) × (p ≡ Here n)
  here_frame (Here n) h = (n, refl)
  here_frame Absent h = cc
  here_frame (Leaving n) h = cc
  here_frame (Loading n slot) h = cc
  here_frame (Away slot) h = cc

  other_beside : (page : Page) (look : Look) → CanMove past (Age page look) → is_own_page page ≡ false → LooksBeside page look false
  other_beside page looks.Taken can other =
      let at = here_frame (place past page) (can.1 other).here in
      (refl, taken_leaves k j past d page a.shows at.0 at.1)
  other_beside page looks.Young can other = (refl, tt)
  other_beside page looks.Held can other = (refl, tt)
  other_beside page looks.NoRoom can other = (refl, tt)

  looked_beside : (page : Page) (look : Look) (v : PassView) → CanMove past (Age page look) → GoesBeside (Age page look) v
  looked_beside page look v can = by_own (is_own_page page) refl
    where
      by_own : (b : Bool) → is_own_page page ≡ b → LooksBeside page look (is_own_page page)
      by_own true is = subst (LooksBeside page look) (sym is) (refl, tt)
      by_own false is = subst (LooksBeside page look) (sym is) (other_beside page look can is)

  -- any other entry, where no page goes out beside the passes
  none_beside : (ev : Event) (taken : List Taken) (kicks : List ℕ) (stage : Stage) (b : Behind) → CanMove past ev
      → passes.aside past ≡ passes.NoneAside → GoesBeside ev (view taken kicks stage asides.None b)
  none_beside (Age page look) taken kicks stage b can none = looked_beside page look (view taken kicks stage asides.None b) can
  none_beside (Kick cpu) taken kicks stage b can none = (
    none ∙ sym (ap aside_by (kick_beside (view taken kicks stage asides.None b) stage)),
    subst (IsAside (own (Kick cpu) ∷ past)) (sym (kick_beside (view taken kicks stage asides.None b) stage)) tt,
  )
  none_beside (Did (actions.EwbStart f slot) answer) taken kicks stage b can none =
      (ap (passes.aside_by (Did (actions.EwbStart f slot) answer)) none, tt)
  none_beside (Did (actions.Ewb f) answer) taken kicks stage b can none = (refl, tt)
  none_beside ev taken kicks stage b can none = (ap (passes.aside_by ev) none, tt)

  -- ---- by what goes out beside the passes

  module _ (taken : List Taken) (kicks : List ℕ) (stage : Stage) (b : Behind)
      (held : HoldsPass made.first_epoch past taken kicks stage (pass j past)) where
    -- by an entry that is none of the pass
    rests : (ev : Event) → ((n : ℕ) → is_track ev n ≡ false) → AreInFrames (own ev ∷ past) (waiting_by taken stage)
        → HoldsPass made.first_epoch (own ev ∷ past) taken kicks stage (pass j past)
    rests ev calm frames = pass_stays made.first_epoch past (own ev) taken kicks stage (pass j past) calm frames held

    -- none does, and the pass goes on
    pass_goes : (ev : Event) → IsOfPass j past ev → TellsEpoch made.first_epoch past ev → CanMove past ev
        → passes.aside past ≡ passes.NoneAside
        → StandsFor made.first_epoch (own ev ∷ past) (gone_on d m ev (view taken kicks stage asides.None b))
        (if is_aside passes.NoneAside ev then pass j past else passes.pass_by j past ev (pass j past))
    pass_goes ev of tells can none = by_event ev of tells can
      where
        goes_on : (ev : Event) → IsOfPass j past ev → TellsEpoch made.first_epoch past ev → CanMove past ev
            → StandsFor made.first_epoch (own ev ∷ past) (gone_on d m ev (view taken kicks stage asides.None b))
            (passes.pass_by j past ev (pass j past))
        goes_on ev of tells can =
            goes ev (view taken kicks stage asides.None b) (passes.pass_by j past ev (pass j past)) can
            (none_beside ev taken kicks stage b can none) (own_goes k made j past d m a b taken kicks stage ev of tells can held)

        by_event : (ev : Event) → IsOfPass j past ev → TellsEpoch made.first_epoch past ev → CanMove past ev
            → StandsFor made.first_epoch (own ev ∷ past) (gone_on d m ev (view taken kicks stage asides.None b))
            (if is_aside passes.NoneAside ev then pass j past else passes.pass_by j past ev (pass j past))
        by_event (Age page look) of tells can =
            subst (λ c. StandsFor made.first_epoch (own (Age page look) ∷ past)
            (gone_on d m (Age page look) (view taken kicks stage asides.None b))
            (if not c then pass j past else passes.pass_by j past (Age page look) (pass j past)))
            (sym (head_own past page a.sound of.look.head)) (goes_on (Age page look) of tells can)
        by_event ev of tells can = goes_on ev of tells can

    -- none does, and a page is due
    look_goes : (g page : Page) (look : Look) → is_own_page g ≡ false → page ≡ g → CanMove past (Age page look)
        → StandsFor made.first_epoch (own (Age page look) ∷ past) (gone_on d m (Age page look) (view taken kicks stage asides.None b))
        (if is_aside passes.NoneAside (Age page look) then pass j past else passes.pass_by j past (Age page look) (pass j past))
    look_goes g page look not_own same can =
        subst (λ c. StandsFor made.first_epoch (own (Age page look) ∷ past)
        (gone_on d m (Age page look) (view taken kicks stage asides.None b))
        (if not c then pass j past else passes.pass_by j past (Age page look) (pass j past))) (sym other)
        (goes (Age page look) (view taken kicks stage asides.None b) (pass j past) can
        (looked_beside page look (view taken kicks stage asides.None b) can)
        (subst (λ c. Holds (Age page look) (if c then passed_on d page look (view taken kicks stage asides.None b)
        else view taken kicks stage asides.None b) (pass j past)) (sym other)
        (rests (Age page look) (λ n. refl)
        (frames_stay past (own (Age page look)) (waiting_by taken stage) a.sound can (λ n. refl) held.frames))))
      where
        other : is_own_page page ≡ false
        other = ap is_own_page same ∙ not_own

    due_goes : (g : Page) (ev : Event) → is_own_page g ≡ false → IsLookAhead g ev → CanMove past ev
        → StandsFor made.first_epoch (own ev ∷ past) (gone_on d m ev (view taken kicks stage asides.None b))
        (if is_aside passes.NoneAside ev then pass j past else passes.pass_by j past ev (pass j past))
    due_goes g (Age page looks.NoRoom) not_own same can = look_goes g page looks.NoRoom not_own same can
    due_goes g (Age page looks.Taken) not_own same can = look_goes g page looks.Taken not_own same can
    due_goes g ev not_own same can = absurd same

    -- a page that was taken goes out next
    start_goes : (t : Taken) (ev : Event) → IsTryAhead past t.page ev → CanMove past ev → passes.aside past ≡ passes.IsToGo t.page
        → place past t.page ≡ Leaving t.frame.0
        → StandsFor made.first_epoch (own ev ∷ past) (gone_on d m ev (view taken kicks stage (asides.ToGo t) b)) (pass j past)
    start_goes t (Did (actions.EwbStart f slot) answer) at can is leaves =
        goes (Did (actions.EwbStart f slot) answer) (view taken kicks stage (asides.ToGo t) b) (pass j past) can (
          ap (passes.aside_by (Did (actions.EwbStart f slot) answer)) is,
          place-quiet past (own (Did (actions.EwbStart f slot) answer)) t.page refl ∙ leaves,
        )
        (rests (Did (actions.EwbStart f slot) answer) (λ n. refl)
        (frames_quiet past (own (Did (actions.EwbStart f slot) answer)) (waiting_by taken stage) refl held.frames))
    start_goes t (Refused (actions.EwbStart f slot) why.VersionSpent) at can is leaves =
        goes (Refused (actions.EwbStart f slot) why.VersionSpent) (view taken kicks stage (asides.ToGo t) b) (pass j past) can (
          ap (passes.aside_by (Refused (actions.EwbStart f slot) why.VersionSpent)) is,
          place-quiet past (own (Refused (actions.EwbStart f slot) why.VersionSpent)) t.page refl ∙ leaves,
        )
        (rests (Refused (actions.EwbStart f slot) why.VersionSpent) (λ n. refl)
        (frames_quiet past (own (Refused (actions.EwbStart f slot) why.VersionSpent)) (waiting_by taken stage) refl held.frames))
    start_goes t ev at can is leaves = absurd at

    -- its write-out has started, and is ended
    end_goes : (t : Taken) (ev : Event) → IsEndAhead past t.page ev → CanMove past ev → is_own_page t.page ≡ false
        → StandsFor made.first_epoch (own ev ∷ past) (gone_on d m ev (view taken kicks stage (asides.Going t) b)) (pass j past)
    end_goes t (Did (actions.Ewb f) answer) at can other =
        goes (Did (actions.Ewb f) answer) (view taken kicks stage (asides.Going t) b) (pass j past) can
        (refl, tt)
        (rests (Did (actions.Ewb f) answer) (λ n. refl)
        (frames_beside past f answer t.page (waiting_by taken stage) a.sound can at other
        (waiting_own taken kicks stage (subst OwnPass held.same (pass_own j past))) held.frames))
    end_goes t ev at can other = absurd at

    by_aside : (x : Aside) (due : Option Page) (ev : Event) → ((g : Page) → due ≡ Some g → is_own_page g ≡ false)
        → IsAhead j past (ahead_by (aside_by x) due) ev → TellsEpoch made.first_epoch past ev → CanMove past ev
        → passes.aside past ≡ aside_by x → IsAside past x
        → StandsFor made.first_epoch (own ev ∷ past) (gone_on d m ev (view taken kicks stage x b))
        (if is_aside (aside_by x) ev then pass j past else passes.pass_by j past ev (pass j past))
    by_aside asides.None None ev other age tells can is leaves = pass_goes ev age tells can is
    by_aside asides.None (Some g) ev other age tells can is leaves = due_goes g ev (other g refl) age can
    by_aside (asides.ToGo t) due ev other age tells can is leaves = start_goes t ev age can is leaves
    by_aside (asides.Going t) due ev other age tells can is leaves =
        end_goes t ev age can (subst (HasAside past) is a.pages.aside).0.0

  -- ---- an entry

  reclaimer_goes : (v : PassView) (out : Outs) (ev : Event) → AgeOf j past out actors.Reclaimer ev → TellsEpoch made.first_epoch past ev
      → CanMove past ev → StandsAt made.first_epoch j past v
      → StandsFor made.first_epoch (own ev ∷ past) (gone_on d m ev v) (pass_after j past actors.Reclaimer ev (pass j past))
  reclaimer_goes v out ev age tells can s =
      subst (λ x. StandsFor made.first_epoch (own ev ∷ past) (gone_on d m ev v)
      (if is_aside x ev then pass j past else passes.pass_by j past ev (pass j past))) (sym s.aside)
      (by_aside v.taken v.kicks v.stage v.behind (record { same = s.same; frames = s.frames; stage = s.stage }) v.aside
      (due_with j past out) ev (λ g is. due_is_other j past out (last_event past actors.Reclaimer) g is)
      (subst (λ x. IsAhead j past (ahead_by x (due_with j past out)) ev) s.aside age) tells can s.aside s.leaves)

  pub entry_goes : (v : PassView) (out : Outs) (e : Entry) → AgeRuleBy j past out e → TellsEpoch made.first_epoch past e.event
      → OwnRule past e → CanMove past e.event → StandsAt made.first_epoch j past v
      → StandsFor made.first_epoch (e ∷ past) (gone_by d m e.actor e.event v) (pass_after j past e.actor e.event (pass j past))
  entry_goes v out e age tells owned can s = by_actor e.actor e.event age tells owned can
    where
      by_actor : (x : Actor) (ev : Event) → AgeOf j past out x ev → TellsEpoch made.first_epoch past ev
          → (is_reclaimers ev ≡ true → x ≡ actors.Reclaimer) → CanMove past ev
          → StandsFor made.first_epoch (entry_of x ev ∷ past) (gone_by d m x ev v) (pass_after j past x ev (pass j past))
      by_actor actors.Reclaimer ev ag te ow ca = reclaimer_goes v out ev ag te ca s
      by_actor actors.Builder ev ag te ow ca =
          others_stand made.first_epoch past (entry_of actors.Builder ev) v (pass j past) a.sound ca
          (false_from_ne_true (is_reclaimers ev) (λ h. let mine : actors.Builder ≡ actors.Reclaimer = ow h in cc)) refl refl s
      by_actor (actors.Cpu p) ev ag te ow ca =
          others_stand made.first_epoch past (entry_of (actors.Cpu p) ev) v (pass j past) a.sound ca
          (false_from_ne_true (is_reclaimers ev) (λ h. let mine : actors.Cpu p ≡ actors.Reclaimer = ow h in cc)) refl refl s

pub first_stands : (first : ℕ) (j : JobView) → StandsAt first j [] new_view
first_stands first j = record { same = refl; frames = tt; stage = tt; aside = refl; leaves = tt; behind = refl; out = tt }
