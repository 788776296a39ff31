-- The end of a load, and that of a write-out, is the next of what driver and machine agree on.
use Rattle.std.proofs.Common.{◌≡◌, ◌<◌, ◌+◌, ℕ, not, Bool, true, false, refl, sym, ◌∙◌, ap, subst, List, ◌∷◌}
use Rattle.std.proofs.Common.{if◌then◌else◌, Option, Some, None, MatchOption, is_some, length, slice_set, arith}
use Rattle.std.proofs.lemmas.Option.{same_Some}
use Rattle.std.specs.Option.{IsSomeAnd}
use Rattle.sgx_rules.specs.declared.entries.Action.TheVariants.{Eld, Ewb}
use Rattle.sgx_types.specs.declared.names.Actor.TheVariants as actors
use Rattle.sgx_rules.specs.declared.entries.Answer.TheVariants.{Moved}
use Rattle.sgx_rules.specs.declared.entries.Entry.{Entry}
use Rattle.sgx_types.specs.declared.names.Cpu.{Cpu}
use Rattle.sgx_types.specs.declared.names.Frame.{Frame}
use Rattle.sgx_types.specs.declared.names.Page.{Page}
use Rattle.sgx_rules.specs.declared.refusals.Refusal.{Refusal}
use Rattle.sgx_types.specs.Making.{Making}
use Rattle.sgx_types.specs.Sealed.{Sealed}
use Rattle.sgx_rules.specs.Starts.{Start, open_start}
use Rattle.sgx_rules.specs.inner.Starts.{BareStart}
use Rattle.sgx_types.specs.Cases.{first_of_row}
use Rattle.job_grammar.specs.Jobs.{JobView}
use Rattle.backing_store.specs.Calls.{Call}
use Rattle.machine_laws.specs.inner.State.{State}
use Rattle.machine_laws.specs.inner.Steps.{IsReloaded, commit_row, did_by, refused_by}
use Rattle.machine_laws.proofs.SlotLaws.{started_as}
use Rattle.sgx_machine.specs.inner.Parts.{Parts, state_of}
use Rattle.driver_slots.specs.inner.Keeper.{count_out}
use Rattle.sgx_types.specs.Pages.{frame_at}
use Rattle.driver_laws.specs.inner.Inits.{InitTells}
use Rattle.driver_laws.specs.inner.Kinds.{CanMove}
use Rattle.driver_rules.specs.Dues.{Ends, IsNext}
use Rattle.driver_rules.specs.Passes.{pass}
use Rattle.driver_rules.specs.inner.Reclaims.{is_refused}
use Rattle.driver_rules.specs.Stops.{is_spent}
use Rattle.driver_rules.specs.Turns.{Loads, cpu_due, last_of, load_of}
use Rattle.driver_rules.specs.inner.Slotted.{SlotTells}
use Rattle.sgx_types.specs.Pages.{is_own_page}
use Rattle.driver_laws.specs.inner.Agrees.{drivers}
use Rattle.driver_laws.specs.inner.Counted.{CountMoves}
use Rattle.driver_laws.specs.inner.Sound.{is_load_start, IsSound, stands_in}
use Rattle.driver_rules.specs.Places.{Leaving, place}
use Rattle.sgx_rules.specs.Frames.{Content, content, Free, Holds, IsLoading, IsVa, SecsOf, stands}
use Rattle.sgx_rules.specs.Table.{is_loading}
use Rattle.std.proofs.lemmas.Bool.{eq-eqb, false≢true}
use Rattle.driver_laws.specs.inner.Tracking.{TrackingRule}
use Rattle.driver_laws.specs.inner.Tracks.{TryTells}
use Rattle.driver_laws.specs.inner.Used.{StartTells}
use Rattle.driver_tables.specs.declared.driver.Driver.{Driver}
use Rattle.driver_tables.specs.inner.Tables.{ShowsTables}
use Rattle.driver_tables.specs.inner.Agrees.{Agrees}
use Rattle.driver_tables.specs.inner.Asked.{IsNextOf}
use Rattle.driver_faults.specs.declared.answers.Loaded.{Loaded}
use Rattle.driver_faults.specs.declared.answers.Loaded.TheVariants as ends
use Rattle.driver_faults.specs.inner.Due.{EndsLoadAt, IsRightEnd, ShowsEnd}
use Rattle.driver_faults.specs.inner.Finishing.{CanFinish, ComesBack, IsFinished}
use Rattle.driver_faults.proofs.EndLaws.{end_frame}
use Rattle.driver_reclaim.specs.inner.Ended.{IsEndedOut}
use Rattle.driver_reclaim.specs.inner.Ready.{Ready}
use Rattle.driver_pass.specs.inner.Standing.{StandsAt}
use Rattle.driver_pass.specs.declared.stages.Taken.{Taken}
use Rattle.driver_pass.specs.inner.Noted.{instructed}
use Rattle.driver_pass.specs.inner.Viewed.{is_amid, PassView, sealing_in}
use Rattle.driver_reclaim.specs.inner.Stored.{IsStored, StoredSays}
use Rattle.run_laws.specs.inner.Loads.{GoesOnWith, entry_in}
use Rattle.run_laws.proofs.PlainLaws.{beside, kicks, others_age}

-- ---- the end of a load

-- what the entry tells, where so many slots were out and are
record EndsSo (first : ℕ) (past : List Entry) (page : Page) (e : Entry) : Type 0 where
  tries : TryTells past e.event
  starts : StartTells past e.event
  inits : InitTells past e.event
  tracking : TrackingRule first past e
  refused : (old new : ℕ) → is_refused e.event ≡ true → new ≡ old → CountMoves past e.event old new
  done : (old new : ℕ) → is_refused e.event ≡ false → new + (if is_own_page page then 1 else 0) ≡ old → CountMoves past e.event old new
  slots : (j : JobView) → SlotTells j past e.event

end_so : (first : ℕ) (s t : State) (past : List Entry) (cpu : Cpu) (f : Frame) (rec : Sealed) (e : Entry)
    → (is : IsReloaded s (actors.Cpu cpu) f rec e t) → EndsSo first past is.coming.page e
end_so first s t past cpu f rec e is = by_row _ _ (first_of_row (commit_row s f.0 is.coming rec)) is.row
  where
    by_row : (X : Type 0) (Y : Refusal → Type 0) (o : Option Refusal) → MatchOption o
        ((e ≡ did_by (actors.Cpu cpu) (Eld f) (Moved is.coming.page is.coming.start.version rec.tag)) × X)
        (λ refusal. (e ≡ refused_by (actors.Cpu cpu) (Eld f) refusal) × Y refusal) → EndsSo first past is.coming.page e
    by_row X Y None k =
        rw k.0 record {
          tries = tt;
          starts = tt;
          inits = tt;
          tracking = record { stay = tt; track = tt };
          refused = λ old new no same. cc;
          done = λ old new h fewer. fewer;
          slots = λ j. tt;
        }
    by_row X Y (Some refusal) k =
        rw k.0 record {
          tries = tt;
          starts = tt;
          inits = tt;
          tracking = record { stay = tt; track = tt };
          refused = λ old new h same. same;
          done = λ old new no fewer. cc;
          slots = λ j. tt;
        }

module _ (made : Making) (j : JobView) (past : List Entry) (d d' : Driver) (m m' : Parts) (v : PassView) (cpu : Cpu)
    (page : Page) (n : ℕ) (loaded : Loaded) (can : CanFinish cpu page d m) (r : Agrees made j past d m)
    (stands : StandsAt made.first_epoch j past v) (whole : is_amid v ≡ false) (going : is_spent past ≡ false)
    (mine : cpu.0 < length j.scripts)
    (last : last_of past cpu.0 ≡ Loads n page)
    (is : IsFinished cpu page can.slot can.frame can.kept d (state_of m) loaded d' (state_of m'))
    (right : IsRightEnd j past cpu page can.frame loaded d') (cpus : length m'.cpus ≡ length m.cpus) where
  so : EndsSo made.first_epoch past is.reloaded.coming.page is.entry
  so = end_so made.first_epoch (state_of m) (state_of m') past cpu can.frame can.kept is.entry is.reloaded

  -- the load is into the frame that the processor's last entry names
  frame_is : n ≡ can.frame.0
  frame_is = end_frame made j past d m r cpu page n last can

  -- the page for which the frame waits is the one that the processor loads
  coming_is : is.reloaded.coming.page ≡ page
  coming_is =
      let its = started_as (state_of m) past r.follows.shape.columns can.frame.0 is.reloaded.coming.start is.reloaded.coming.opened in
      let opens : load_of (open_start past can.frame.0) ≡ Some page =
      subst (λ k. load_of (open_start past k) ≡ Some page) frame_is (r.theirs.started cpu.0 n page last) in
      same_Some is.reloaded.coming.page page
      (sym is.reloaded.coming.loads ∙ sym (ap (λ (y : BareStart). y.loads) its.same) ∙ sym (ap load_of its.opened) ∙ opens)

  due : cpu_due j past cpu.0 ≡ Ends (Eld can.frame)
  due = by_frame ∙ ap (λ k. Ends (Eld (frame_at k))) frame_is
    where
      by_frame : cpu_due j past cpu.0 ≡ Ends (Eld (frame_at n))
      by_frame = rw (going, last) refl

  shown : (l : Loaded) (e : Entry) → entry_in l ≡ e → EndsLoadAt past cpu page can.frame right.entry l → ShowsEnd j past cpu page l d'
      → (right.entry ≡ e) × ShowsTables (drivers j) j d' (e ∷ past)
  shown (ends.Here x) e same at shows = (sym at.0 ∙ same, subst (λ y. ShowsTables (drivers j) j d' (y ∷ past)) same shows)
  shown (ends.Bus x why) e same at shows = (sym at.0 ∙ same, subst (λ y. ShowsTables (drivers j) j d' (y ∷ past)) same shows.0)

  next : entry_in loaded ≡ is.entry → CountMoves past is.entry.event (count_out d.slots) (count_out d'.slots)
      → IsNextOf made j past d m is.entry d' m'
  next same counts =
      let k = shown loaded is.entry same right.end right.shows in
      let by : is.entry.actor ≡ actors.Cpu cpu = sym (ap (λ (e : Entry). e.actor) k.0) ∙ right.actor in
      record {
        script = record {
          not_spent = going;
          next = rw by (
            mine,
            subst (λ x. IsNext x is.entry.event) (sym due)
                (subst (λ (e : Entry). IsNext (Ends (Eld can.frame)) e.event) k.0 right.due),
          );
        };
        age = rw by (others_age j past (actors.Cpu cpu) is.entry.event refl);
        kick =
            rw by (kicks j past (actors.Cpu cpu) is.entry.event refl (beside made.first_epoch past v (pass j past) stands whole));
        slots = so.slots j;
        can = subst (λ (e : Entry). CanMove past e.event) k.0 right.kept;
        tries = so.tries;
        starts = so.starts;
        inits = so.inits;
        tracking = so.tracking;
        follows = is.carries.shape made past r.follows;
        fits = is.carries.fits made past r.follows r.fits;
        cpus = cpus;
        shows = k.1;
        counts = counts;
      }

  -- a TCS or REG page gives its slot back, and another one has none of the keeper's
  by_kind : (b : Bool) → is_own_page page ≡ b → ComesBack (record d { kept = slice_set d.kept cpu.0 None }) page can.frame can.slot d'
      → count_out d'.slots + (if b then 1 else 0) ≡ count_out d.slots
  by_kind true own back = (back.0 own).slots.counted
  by_kind false aside back =
      let same : count_out d'.slots ≡ count_out d.slots = ap (λ (x : Driver). count_out x.slots) (back.1 aside) in omega (arith, same)

  by_refused : (b : Bool) → is_refused is.entry.event ≡ b → IsNextOf made j past d m (entry_in loaded) d' m'
  by_refused true refused =
      let k = is.ends.0 refused in
      let same : entry_in loaded ≡ is.entry = ap entry_in k.0 in
      subst (λ e. IsNextOf made j past d m e d' m') (sym same)
      (next same (so.refused (count_out d.slots) (count_out d'.slots) refused (ap (λ (x : Driver). count_out x.slots) k.1)))
  by_refused false done =
      let k = is.ends.1 done in
      let same : entry_in loaded ≡ is.entry = ap entry_in k.0 in
      subst (λ e. IsNextOf made j past d m e d' m') (sym same)
      (next same (so.done (count_out d.slots) (count_out d'.slots) done
      (subst (λ g. count_out d'.slots + (if is_own_page g then 1 else 0) ≡ count_out d.slots) (sym coming_is)
      (by_kind (is_own_page page) refl k.1))))

  pub end_next : IsNextOf made j past d m (entry_in loaded) d' m'
  end_next = by_refused (is_refused is.entry.event) refl

-- ---- the end of a write-out

-- by what is told of it
out_by : (made : Making) (j : JobView) (past : List Entry) (d d' : Driver) (m m' : Parts) (f : Frame) (page : Page) (x : Start)
    (version : ℕ) (tag : List ℕ) (e : Entry) (v : PassView) → Agrees made j past d m → is_spent past ≡ false
    → e ≡ did_by actors.Reclaimer (Ewb f) (Moved page version tag) → open_start past f.0 ≡ Some x → x.loads ≡ None → version ≡ x.version
    → IsEndedOut made.first_epoch j past d e v d' → GoesOnWith made past e m' → length m'.cpus ≡ length m.cpus
    → IsNextOf made j past d m e d' m'
out_by made j past d d' m m' f page x version tag e v a going entry opened writes drawn ended on cpus = record {
  script = record { not_spent = going; next = rw entry refl };
  age = rw (ap (λ (b : Entry). b.actor) entry) ended.kept.age;
  kick = record {
    form = rw (ap (λ (b : Entry). b.actor) entry) ended.kept.form;
    beside = rw (ap (λ (b : Entry). b.actor) entry) tt;
  };
  slots = ended.kept.slot;
  can = ended.kept.can;
  tries = ended.kept.tells;
  starts = rw entry (x, opened, writes, drawn);
  inits = rw entry tt;
  tracking = rw entry record { stay = tt; track = tt };
  follows = on.shape;
  fits = on.fits;
  cpus = cpus;
  shows = ended.shows.shows.tables;
  counts = ended.shows.counts;
}

-- the start of a page that is leaving loads none
none_loads : (past : List Entry) (f : ℕ) (page : Page) (x : Start) → IsSound past → place past page ≡ Leaving f → open_start past f ≡ Some x
    → x.loads ≡ None
none_loads past f page x s at opened =
    by_loads x.loads (sym (ap is_load_start opened) ∙ s.places.loading f
    ∙ by_content (content past f) (s.places.frames page f ∙ ap (λ p. stands_in p f) at ∙ eq-eqb f f refl))
  where
    by_content : (c : Content) → stands c page ≡ true → is_loading c ≡ false
    by_content (IsLoading g) h = absurd (false≢true h)
    by_content Free h = refl
    by_content (IsVa number) h = refl
    by_content (SecsOf enclave) h = refl
    by_content (Holds g kind perm) h = refl

    by_loads : (o : Option Page) → is_some o ≡ false → o ≡ None
    by_loads None h = refl
    by_loads (Some g) h = cc

pub out_next : (made : Making) (j : JobView) (past : List Entry) (d d' : Driver) (m m' : Parts) (v : PassView)
    (told told' : Option (List Call)) (faults faults' : ℕ) (e : Entry) → Ready made j past v d m → is_spent past ≡ false
    → StoredSays v (state_of m) d told faults e (state_of m') d' told' faults'
    → IsEndedOut made.first_epoch j past d e (instructed e.event v) d' → GoesOnWith made past e m' → length m'.cpus ≡ length m.cpus
    → IsNextOf made j past d m e d' m'
out_next made j past d d' m m' v told told' faults faults' e r going says ended on cpus = by_one (sealing_in v) says
  where
    by_one : (o : Option Taken) → IsSomeAnd o (λ one. IsStored one (state_of m) d told faults e (state_of m') d' told' faults')
        → IsNextOf made j past d m e d' m'
    by_one None k = absurd k
    by_one (Some one) k =
        let its = started_as (state_of m) past r.agrees.follows.shape.columns one.frame.0 k.out.leaving.start k.out.leaving.opened in
        let can = subst (λ (b : Entry). CanMove past b.event) k.out.entry ended.kept.can in
        out_by made j past d d' m m' one.frame k.out.leaving.page its.start k.out.leaving.start.version k.rec.tag e (instructed e.event v)
        r.agrees going k.out.entry its.opened (none_loads past one.frame.0 k.out.leaving.page its.start r.agrees.sound can.0 its.opened)
        (sym (ap (λ (y : BareStart). y.version) its.same)) ended on cpus
