-- The end of a load: what comes back is the page that the frame waits for, with the record with which it went out last.
use Rattle.std.specs.Prelude.{IfOk}
use Rattle.std.proofs.Common.{◌≡◌, ℕ, Bool, true, false, refl, sym, ap, subst, ◌∙◌, List, [], ◌∷◌, Option, Some, None, Result, Ok, Err}
use Rattle.std.proofs.lemmas.Bool.{false≢true}
use Rattle.std.proofs.lemmas.Option.{none-some, same_Some}
use Rattle.sgx_types.specs.declared.names.Actor.{Actor}
use Rattle.sgx_types.specs.declared.names.Frame.{Frame}
use Rattle.sgx_types.specs.declared.names.Memory.{Memory}
use Rattle.sgx_types.specs.declared.names.Page.{Page}
use Rattle.sgx_types.specs.Making.{Making}
use Rattle.sgx_types.specs.Pages.{same_page}
use Rattle.sgx_types.proofs.Pages.{same_page-refl, same_pages}
use Rattle.sgx_rules.specs.declared.entries.Action.{Action}
use Rattle.sgx_rules.specs.declared.entries.Action.TheVariants.{Eld}
use Rattle.sgx_rules.specs.declared.entries.Answer.{Answer}
use Rattle.sgx_rules.specs.declared.entries.Answer.TheVariants.{Moved}
use Rattle.sgx_rules.specs.declared.entries.Entry.{Entry}
use Rattle.sgx_rules.specs.declared.entries.Event.{Event}
use Rattle.sgx_rules.specs.declared.entries.Event.TheVariants.{Did, Refused}
use Rattle.sgx_rules.specs.declared.refusals.Refusal.{Refusal}
use Rattle.sgx_rules.specs.Ends.{EndsIn, IsBack, IsNotBack}
use Rattle.sgx_rules.specs.Fresh.{FreshRule}
use Rattle.sgx_rules.specs.Rules.{NoPageTwice, NoneStale, RefusalRule}
use Rattle.sgx_rules.specs.Starts.{Start, open_start}
use Rattle.sgx_rules.specs.inner.Rules.{KeepsRules}
use Rattle.sgx_rules.specs.inner.Starts.{BareStart, bare_start, without_place}
use Rattle.seal_record.specs.declared.unseal.UnsealedWork.{UnsealedWork}
use Rattle.seal_record.specs.inner.Sealing.{made_by}
use Rattle.job_grammar.specs.Jobs.{JobView}
use Rattle.script_rules.specs.Machines.{machine_of}
use Rattle.script_rules.specs.Script.{action_of}
use Rattle.machine_laws.specs.inner.Histories.{StandsWithAllRules}
use Rattle.machine_laws.specs.inner.State.{State}
use Rattle.machine_laws.specs.inner.Steps.{CanBring, refused_by}
use Rattle.machine_laws.proofs.ColumnLaws.{start_is}
use Rattle.machine_laws.proofs.FrameLaws.{open_below}
use Rattle.sgx_rules.proofs.Busy.{bare_of}
use Rattle.machine_laws.proofs.TestLaws.{last_place}
use Rattle.sgx_machine.specs.declared.starts.Start as starts
use Rattle.sgx_machine.specs.inner.Parts.{Parts, start_of, state_of}
use Rattle.history_rules.specs.declared.rules.Rule.{Rule}
use Rattle.history_rules.specs.declared.rules.Rule.TheVariants as rules
use Rattle.history_rules.specs.inner.Histories.{is_machines}
use Rattle.history_machine.specs.Histories.{FailsAmong}
use Rattle.audit_machine.proofs.OrderLaws.{fresh_fails, refusal_fails}
use Rattle.audit_machine.specs.inner.Asked.{Breaks, GoesOnWith, IsDoneBack, IsOwnRecord, Takes, TakesBack, made_for}
use Rattle.audit_machine.proofs.ComeLaws.{can_bring, none_comes}
use Rattle.audit_machine.proofs.KeptLaws.{own_rules}
use Rattle.audit_machine.specs.inner.Kept.{IsKeptUnder, KeepsRecords, Records, kept_of, without_record}
use Rattle.audit_machine.proofs.OwnLaws.{comes_fresh, own_is_kept}
use Rattle.audit_machine.proofs.StayLaws.{goes_on, not_ewb, own_records, record_back, records_stay}
use Rattle.audit_check.specs.inner.Asks.{CanCheck, IsAnswered, IsTakenWith, Loads}
use Rattle.audit_check.specs.inner.Tests.{load_of, tells_page}
use Rattle.audit_check.proofs.AskLaws.{breaks, committed}

-- the start of a load, by what was looked at
pub loads_by : (s : State) (n : ℕ) (start : Option starts.Start) (page : Page) (version : ℕ) → start_of start ≡ s.start n
    → load_of start ≡ Some (page, version) → Loads s n page version
loads_by s n None page version is load = cc load
loads_by s n (Some x) page version is load = by_load x.loads refl load
  where
    by_load : (o : Option Page) → x.loads ≡ o → load_of (Some (record x { loads = o })) ≡ Some (page, version) → Loads s n page version
    by_load None at told = cc told
    by_load (Some g) at told =
        let both : (g, x.version) ≡ (page, version) = same_Some _ _ told in
        record {
          start = record { at = x.at; slot = x.slot; version = x.version; loads = x.loads };
          opened = sym is;
          loads = at ∙ ap Some (ap (λ p. p.0) both);
          found = ap (λ p. p.1) both;
        }

module _ (m : Parts) (kept : Records) (e : Entry) (can : CanCheck m kept) (f : Frame) (own : action_of e.event ≡ Some (Eld f)) where
  abbrev j : JobView
  j = can.j

  abbrev past : List Entry
  past = can.past

  abbrev k : Making
  k = made_for can.j can.cpus

  columns-start : (state_of m).start f.0 ≡ bare_start (open_start past f.0)
  columns-start = start_is can.checked.stands.shaped.shape.columns f.0

  -- ---- a frame for which nothing comes

  ends-nothing : (start : Option starts.Start) → start_of start ≡ (state_of m).start f.0 → load_of start ≡ None → (page : Page)
      → EndsIn past f.0 page → ⊥
  ends-nothing start is none page ends = by_start start (is ∙ columns-start ∙ ap bare_start ends.opened) none
    where
      by_load : (o : Option Page) (x : starts.Start) → x.loads ≡ o → o ≡ Some page → load_of (Some (record x { loads = o })) ≡ None → ⊥
      by_load None x at loads told = none-some _ loads
      by_load (Some g) x at loads told = cc told

      by_start : (o : Option starts.Start) → start_of o ≡ Some (without_place ends.start) → load_of o ≡ None → ⊥
      by_start None at told = none-some _ at
      by_start (Some x) at told =
          by_load x.loads x refl (ap (λ (y : BareStart). y.loads) (same_Some _ _ at) ∙ ends.loads) told

  pub none_loaded : (start : Option starts.Start) → start_of start ≡ (state_of m).start f.0 → load_of start ≡ None
      → FailsAmong is_machines j past (Some e) rules.Refusal
  none_loaded start is none = refusal_fails j past e (by_event e.event own)
    where
      by_event : (event : Event) → action_of event ≡ Some (Eld f)
          → RefusalRule (machine_of j) past (record { actor = e.actor; event = event }) → ⊥
      by_event (Did action answer) same h =
          let back : IsBack past f.0 answer = rw (same_Some _ _ same) at h.1 in
          ends-nothing start is none back.page back.ends
      by_event (Refused action reason) same h =
          let back : IsNotBack past f.0 reason = subst (λ x. RefusalRule (machine_of j) past
          (record { actor = e.actor; event = Refused x reason })) (same_Some _ _ same) h in
          ends-nothing start is none back.page back.ends
      by_event event same h = absurd (none-some _ same)

  -- ---- a load that was refused

  pub away : (reason : Refusal) → e ≡ refused_by e.actor (Eld f) reason → (t : Parts) (broken : Option Rule)
      → Takes (state_of m) (refused_by e.actor (Eld f) reason) (state_of t) broken → IsAnswered j can.cpus past m e t kept broken
  away reason is t None takes =
      committed m kept e can (Eld f) t kept own refl
      (goes_on k (state_of m) (state_of t) past e [] (subst (λ x. GoesOnWith (state_of m) x [] (state_of t)) (sym is) takes)
      can.checked.stands)
      (records_stay j.key past e kept (not_ewb e.event (Eld f) own refl) can.checked.records)
  away reason is t (Some rule) takes = breaks m kept e can rule (subst (λ x. Breaks (state_of m) x rule) (sym is) takes)

  -- ---- a load that was done

  module _ (page : Page) (version : ℕ) (waits : Loads (state_of m) f.0 page version) where
    -- the open start by the entries
    record Begun : Type 0 where
      pub start : Start
      pub opened : open_start past f.0 ≡ Some start
      pub loads : start.loads ≡ Some page
      pub found : start.version ≡ version

    begun : Begun
    begun =
        let x = bare_of (open_start past f.0) waits.start (sym columns-start ∙ waits.opened) in
        record {
          start = x.start;
          opened = x.opened;
          loads = ap (λ (y : BareStart). y.loads) x.same ∙ waits.loads;
          found = ap (λ (y : BareStart). y.version) x.same ∙ waits.found;
        }

    module _ (done : IsDoneBack e.event f) where
      -- the event by its answer
      record Answered : Type 0 where
        pub answer : Answer
        pub is : e ≡ record { actor = e.actor; event = Did (Eld f) answer }

      answered : Answered
      answered = by_event e.event refl done
        where
          by_event : (event : Event) → e.event ≡ event → IsDoneBack event f → Answered
          by_event (Did action answer) is same = record {
            answer = answer;
            is = let event : e.event ≡ Did (Eld f) answer = is ∙ (λ i. Did (same i) answer) in
                λ i. record { actor = e.actor; event = event i };
          }
          by_event event is same = absurd same

      -- it tells of another page
      pub other_page : tells_page e.event page ≡ false → FailsAmong is_machines j past (Some e) rules.Refusal
      other_page untold = refusal_fails j past e fails
        where
          fails : RefusalRule (machine_of j) past e → ⊥
          fails h =
              let its : RefusalRule (machine_of j) past (record { actor = e.actor; event = Did (Eld f) answered.answer }) =
              subst (RefusalRule (machine_of j) past) answered.is h in
              let back : IsBack past f.0 answered.answer = its.1 in
              let same : back.ends.start ≡ begun.start = same_Some _ _ (sym back.ends.opened ∙ begun.opened) in
              let page-is : back.page ≡ page =
              same_Some _ _ (sym back.ends.loads ∙ ap (λ (x : Start). x.loads) same ∙ begun.loads) in
              let told : tells_page (Did (Eld f) answered.answer) page ≡ true =
              ap (λ a. tells_page (Did (Eld f) a) page) back.told ∙ ap (λ g. same_page g page) page-is ∙ same_page-refl page in
              false≢true (sym untold ∙ ap (λ (x : Entry). tells_page x.event page) answered.is ∙ told)

      -- no record of this version is kept
      pub stale : tells_page e.event page ≡ true → (IsKeptUnder version (kept page) → ⊥)
          → FailsAmong is_machines j past (Some e) rules.Fresh
      stale told none = by_answer answered.answer answered.is (sym (ap (λ (x : Entry). tells_page x.event page) answered.is) ∙ told)
        where
          keeps : KeepsRules k past
          keeps = own_rules k (state_of m) past (made_by j.key past) can.checked.stands

          by_answer : (answer : Answer) → e ≡ record { actor = e.actor; event = Did (Eld f) answer }
              → tells_page (Did (Eld f) answer) page ≡ true → FailsAmong is_machines j past (Some e) rules.Fresh
          by_answer (Moved moved version' tag) is says =
              let same : moved ≡ page = same_pages moved page says in
              let told : Moved moved version' tag ≡ Moved page version' tag = ap (λ g. Moved g version' tag) same in
              subst (λ x. FailsAmong is_machines j past (Some x) rules.Fresh)
              (sym (is ∙ ap (λ a. record { actor = e.actor; event = Did (Eld f) a }) told))
              (fresh_fails j past (record { actor = e.actor; event = Did (Eld f) (Moved page version' tag) }) (
                refl,
                record {
                  page = page;
                  ends = record { start = begun.start; opened = begun.opened; loads = begun.loads };
                  version = version';
                  tag = tag;
                  told = refl;
                },
              )
              (λ visible. cc visible)
              ((open_below j.epc past f.0 keeps.fits.entries (rw begun.opened refl), tt), last_place NoPageTwice past keeps.fits.pages)
              (tt, last_place NoneStale past keeps.stale.places) tt
              (λ (h : FreshRule j.start_version past (record { actor = e.actor; event = Did (Eld f) (Moved page version' tag) })).
              none (subst (λ v. IsKeptUnder v (kept page)) begun.found
              (comes_fresh k (state_of m) past (made_by j.key past) can.checked.stands kept can.checked.records f.0 begun.start page
              begun.opened begun.loads version' tag h.reload))))
          by_answer answer is says = absurd (false≢true says)

      module _ (work : UnsealedWork) (under : work.version ≡ version) (is : kept page ≡ Some (kept_of work)) where
        pub own_work : IsOwnRecord j.key past f.0 work.rec
        own_work = own_is_kept k (state_of m) past (made_by j.key past) can.checked.stands kept can.checked.records f.0 begun.start page
            begun.opened begun.loads work.rec (is ∙ ap (λ v. Some (v, work.rec)) (under ∙ sym begun.found))

        -- the machine may be asked for the end of its load
        pub own_comes : CanBring (state_of m) f.0
        own_comes = can_bring k (state_of m) past (made_by j.key past) f work.rec can.checked.stands own_work

        pub back : (t : Parts) (after : Records) → after ≡ without_record kept page → (broken : Option Rule)
            → TakesBack (state_of m) e f work.rec (state_of t) broken → IsAnswered j can.cpus past m e t after broken
        back t after gone None told =
            let stands = told k past (made_by j.key past) can.checked.stands own_work in
            committed m kept e can (Eld f) t after own refl (own_records k (state_of t) (e ∷ past) (made_by j.key past) stands)
            (subst (KeepsRecords j.key (e ∷ past)) (sym gone)
            (record_back k (state_of m) (state_of t) past (made_by j.key past)
            e f begun.start page kept stands done begun.opened begun.loads
            can.checked.records))
        back t after gone (Some rule) told = told j can.cpus past (made_by j.key past) can.checked.stands own_work

-- whatever the trace was, and the machine was answered
pub away_all : (m : Parts) (kept : Records) (e : Entry) (f : Frame) (own : action_of e.event ≡ Some (Eld f)) (reason : Refusal)
    → e ≡ refused_by e.actor (Eld f) reason → (t : Parts) (r : Result (Option Rule) Memory)
    → IfOk r (Takes (state_of m) (refused_by e.actor (Eld f) reason) (state_of t))
    → IfOk r (λ broken. (can : CanCheck m kept) → IsAnswered can.j can.cpus can.past m e t kept broken)
away_all m kept e f own reason is t (Ok broken) takes = λ can. away m kept e can f own reason is t broken takes
away_all m kept e f own reason is t (Err memory) takes = tt

pub done_own : (event : Event) (f : Frame) → IsDoneBack event f → action_of event ≡ Some (Eld f)
done_own (Did action answer) f done = ap Some done
done_own event f done = absurd done

-- the entry that tells of a refused load
pub refused_entry : (e : Entry) (f : Frame) (action : Action) (reason : Refusal) → e.event ≡ Refused action reason
    → action_of e.event ≡ Some (Eld f) → e ≡ refused_by e.actor (Eld f) reason
refused_entry e f action reason is own =
    let act : action ≡ Eld f = same_Some _ _ (sym (ap action_of is) ∙ own) in
    let event : e.event ≡ Refused (Eld f) reason = is ∙ (λ k. Refused (act k) reason) in
    λ i. record { actor = e.actor; event = event i }
