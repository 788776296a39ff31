-- What the tables need of an entry that moves a page is so where it keeps each rule.
use Rattle.std.proofs.Common.{◌≡◌, ℕ, ◌<◌, Bool, true, false, if◌then◌else◌, List, Option, Some, None, length, nat_lt, refl, sym, ap}
use Rattle.std.proofs.Common.{subst, ◌∙◌}
use Rattle.std.proofs.lemmas.Option.{none-some, same_Some}
use Rattle.sgx_rules.specs.declared.entries.Action.{Action}
use Rattle.sgx_rules.specs.declared.entries.Action.TheVariants as actions
use Rattle.sgx_types.specs.declared.names.Actor.{Actor}
use Rattle.sgx_types.specs.declared.names.Actor.TheVariants as actors
use Rattle.sgx_rules.specs.declared.entries.Answer.{Answer}
use Rattle.sgx_rules.specs.declared.entries.Answer.TheVariants.{Moved}
use Rattle.sgx_rules.specs.declared.entries.Entry.{Entry}
use Rattle.sgx_rules.specs.declared.entries.Event.{Event}
use Rattle.sgx_rules.specs.declared.entries.Event.TheVariants.{Did, Refused, Age}
use Rattle.sgx_types.specs.declared.names.Cpu.{Cpu}
use Rattle.sgx_types.specs.declared.names.Frame.{Frame}
use Rattle.sgx_types.specs.declared.names.Page.{Page}
use Rattle.sgx_types.specs.declared.names.SlotAt.{SlotAt}
use Rattle.sgx_types.specs.declared.names.VaSlot.{VaSlot}
use Rattle.sgx_types.specs.Pages.{is_own_page}
use Rattle.sgx_rules.specs.declared.entries.Look.{Look}
use Rattle.sgx_rules.specs.declared.entries.Look.TheVariants as looks
use Rattle.sgx_rules.specs.Frames.{Content, Free, Holds, IsLoading, IsVa, SecsOf, content}
use Rattle.sgx_rules.specs.declared.refusals.Refusal.{Refusal}
use Rattle.sgx_rules.specs.Starts.{open_start, slot_found, slot_in}
use Rattle.cached_translations.specs.declared.processor.Mode.{Mode}
use Rattle.job_grammar.specs.Jobs.{JobView}
use Rattle.script_rules.specs.Machines.{machine_of}
use Rattle.driver_list.specs.inner.Places.{IsPlaced}
use Rattle.sgx_machine.specs.declared.starts.Start as starts
use Rattle.sgx_machine.specs.inner.Parts.{Parts}
use Rattle.machine_laws.specs.inner.Steps.{did_by, refused_by}
use Rattle.driver_rules.specs.Ages.{AgeRule, head_of}
use Rattle.driver_rules.specs.Places.{active, place}
use Rattle.driver_laws.specs.inner.Agrees.{auditors}
use Rattle.driver_laws.specs.inner.Kinds.{CanLook}
use Rattle.driver_laws.specs.inner.Sound.{is_absent, once_listed, slot_at, slot_of}
use Rattle.driver_laws.proofs.SoundLaws.{entry_of, head_here}
use Rattle.driver_tables.specs.declared.driver.Driver.{Driver}
use Rattle.driver_tables.proofs.ListLaws.{heads, not_listed}
use Rattle.driver_tables.specs.inner.Tells.{Tells}
use Rattle.due_tables.specs.declared.turns.Turns.{Turns}
use Rattle.audit_tables.proofs.AgreeLaws.{tells_by_rules}
use Rattle.audit_tables.specs.inner.Followed.{TablesCanFollow}
use Rattle.audit_tables.specs.inner.Following.{FitsAway, FitsEnd, FitsEnded, FitsEvent, FitsGone, FitsLoad, FitsLook, FitsMove}
use Rattle.audit_tables.specs.inner.Following.{FitsRefused, FitsStarted, IsLeft}
use Rattle.audit_tables.proofs.LawfulLaws.{IsLawful, lawful, not_builders, not_cpus}
use Rattle.audit_tables.proofs.SpareLaws.{looked_due}
use Rattle.audit_tables.proofs.StartLaws.{IsOfLoad, begun_out, here_there, open_load, ours_of, slot_left}

-- the slot that an instruction named by a frame has the index of its name
slot_within : (past : List Entry) (f : Frame) (at : SlotAt) (slot : VaSlot) → slot_found (content past) at ≡ Some slot
    → nat_lt at.index 512 ≡ true → nat_lt slot.index 512 ≡ true
slot_within past f at slot found low = by_content (content past at.frame.0) found
  where
    by_content : (c : Content) → slot_in c at.index ≡ Some slot → nat_lt slot.index 512 ≡ true
    by_content (IsVa n) h =
        let same : record { va = n; index = at.index } ≡ slot = same_Some _ slot h in
        subst (λ (s : VaSlot). nat_lt s.index 512 ≡ true) same low
    by_content Free h = absurd (none-some slot h)
    by_content (IsLoading g) h = absurd (none-some slot h)
    by_content (SecsOf e) h = absurd (none-some slot h)
    by_content (Holds g kind perm) h = absurd (none-some slot h)

module _ (j : JobView) (past : List Entry) (d : Driver) (m : Parts) (tells : Tells auditors (machine_of j) j past d m) where
  -- a page that was added has its place
  pub has_place : (g : Page) → is_absent (place past g) ≡ false → IsPlaced d.states.counts g
  has_place g there = tells.shows.placed g there

  in_list : (g : Page) → is_absent (place past g) ≡ false → IsPlaced d.active.counts g
  in_list g there = subst (λ counts. IsPlaced counts g) tells.shows.counts (has_place g there)

  -- a processor of the job has room for a record
  pub has_room : (c : Cpu) → c.0 < length j.scripts → c.0 < length d.kept
  has_room c low = subst (λ n. c.0 < n) (sym (tells.shows.rooms ∙ tells.shows.cpus)) low

  -- a TCS or REG page is looked at as the head of the list
  pub head_is : (page : Page) (look : Look) → CanLook past page look → is_own_page page ≡ true → head_of (active past) ≡ Some page
  head_is page looks.Taken can own = can.0 own
  head_is page looks.Held can own = can own
  head_is page looks.Young can own = can own
  head_is page looks.NoRoom can own = can own

  -- a page that is looked at is here
  pub looked_there : (page : Page) (look : Look) → CanLook past page look → AgeRule j past (entry_of actors.Reclaimer (Age page look))
      → is_absent (place past page) ≡ false
  looked_there page look can age = by_own (is_own_page page) refl
    where
      by_own : (b : Bool) → is_own_page page ≡ b → is_absent (place past page) ≡ false
      by_own true own =
          let here = head_here (active past) (place past) page tells.sound.list (head_is page look can own) in ap is_absent here.1
      by_own false other = here_there (place past page) (looked_due j past page look tells.sound age other).here

  look_fits : (page : Page) (look : Look) → CanLook past page look → AgeRule j past (entry_of actors.Reclaimer (Age page look))
      → FitsLook d page
  look_fits page look can age = record {
    head = λ own. heads past d.active.pages (active past) tells.shows.list ∙ head_is page look can own;
    listed = in_list page (looked_there page look can age);
    placed = has_place page (looked_there page look can age);
    counts = tells.shows.counts;
  }

  gone_fits : (start : Option starts.Start) (page : Page) (version : ℕ) (tag : List ℕ) → is_absent (place past page) ≡ false
      → FitsGone start (Moved page version tag) d
  gone_fits None page version tag there = tt
  gone_fits (Some x) page version tag there = has_place page there

  load_fits : (c : Cpu) (page : Page) → c.0 < length j.scripts → is_absent (place past page) ≡ false → FitsLoad d c page
  load_fits c page low there = record { room = has_room c low; placed = has_place page there }

  end_fits : (c : Cpu) (f : ℕ) (page : Page) (start : Option starts.Start) (k : IsOfLoad past f page start) → c.0 < length j.scripts
      → FitsEnd d c page k.start.slot
  end_fits c f page start k low = record {
    room = has_room c low;
    listed = in_list page (ap is_absent k.at);
    placed = has_place page (ap is_absent k.at);
    counts = tells.shows.counts;
    absent = not_listed past d.active.pages (active past) page tells.shows.list
        (tells.sound.list page ∙ ap (once_listed page) k.at ∙ none_listed (is_own_page page));
    out = tells.shows.slots.used page k.start.slot mine (ours_of j d.slots past tells.shows.slots page k.start.slot mine);
  }
    where
      mine : slot_of past page ≡ Some k.start.slot
      mine = ap (slot_at (open_start past)) k.at

      none_listed : (b : Bool) → ◌≡◌ {A = ℕ} (if b then 0 else 0) 0
      none_listed true = refl
      none_listed false = refl

  module _ (start : Option starts.Start) where
    did_fits : (a : Actor) (action : Action) (answer : Answer) → IsLawful j past start (did_by a action answer)
        → FitsMove start a action answer d
    did_fits a (actions.EwbStart f at) answer law =
        let y = begun_out past a f at answer law.can.1 start law.can.2 (law.begun f refl) in
        subst (λ s. FitsStarted s d) (sym y.1)
        (subst (IsLeft d.slots) (sym y.2)
        (slot_left j d.slots past tells.shows.slots law.can.1 tells.sound law.can.3 (slot_within past f at law.can.1 law.can.2 law.starts.2)
        law.can.4))
    did_fits a (actions.Ewb f) (Moved page version tag) law = gone_fits start page version tag (ap is_absent law.can.0)
    did_fits a (actions.Ewb f) answer law = absurd law.can
    did_fits (actors.Cpu c) (actions.EldStart f page at) answer law = load_fits c page law.script.next.0 (ap is_absent law.can.2)
    did_fits actors.Builder (actions.EldStart f page at) answer law = tt
    did_fits actors.Reclaimer (actions.EldStart f page at) answer law = tt
    did_fits (actors.Cpu c) (actions.Eld f) (Moved page version tag) law =
        let k = open_load past f.0 page law.can.0 start tells.sound law.can.1 (law.ended f refl) in
        subst (λ s. FitsEnded (actors.Cpu c) s (Moved page version tag) d) (sym k.is) (end_fits c f.0 page start k law.script.next.0)
    did_fits actors.Builder (actions.Eld f) answer law = tt
    did_fits actors.Reclaimer (actions.Eld f) answer law = tt
    did_fits (actors.Cpu c) (actions.Eld f) answer law = absurd law.can
    did_fits a action answer law = tt

    refused_fits : (a : Actor) (f : Frame) (refusal : Refusal) → IsLawful j past start (refused_by a (actions.Eld f) refusal)
        → FitsRefused a start d
    refused_fits actors.Builder f refusal law = tt
    refused_fits actors.Reclaimer f refusal law = tt
    refused_fits (actors.Cpu c) f refusal law =
        let k = open_load past f.0 law.can.0 law.can.1 start tells.sound law.can.2 (law.ended f refl) in
        subst (λ s. FitsRefused (actors.Cpu c) s d) (sym k.is)
        (subst (λ o. FitsAway c o d) (sym k.loads) (load_fits c law.can.0 law.script.next.0 (ap is_absent law.can.2)))

    event_fits : (a : Actor) (ev : Event) → IsLawful j past start (record { actor = a; event = ev }) → FitsEvent start a ev d
    event_fits actors.Reclaimer (Age page look) law = look_fits page look law.can law.age
    event_fits actors.Builder (Age page look) law = absurd (not_builders j past (Age page look) law.script refl)
    event_fits (actors.Cpu c) (Age page look) law = absurd (not_cpus j past c (Age page look) law.script refl)
    event_fits a (Did action answer) law = did_fits a action answer law
    event_fits a (Refused (actions.Eld f) refusal) law = refused_fits a f refusal law
    event_fits a ev law = tt

pub entry_fits : (t : Turns) (d : Driver) (before : Mode) (start : Option starts.Start) (e : Entry) → TablesCanFollow t d before start e
    → FitsEvent start e.actor e.event d
entry_fits t d before start e can =
    event_fits can.j can.past d can.m (tells_by_rules can.j can.past d can.m t can.trace) start e.actor e.event
    (lawful t d before start e can)
