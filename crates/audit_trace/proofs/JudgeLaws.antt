-- What is said of one entry.
use Rattle.std.proofs.Common.{◌≡◌, ℕ, Bool, true, false, refl, sym, ap, subst, ◌∙◌, List, [], ◌∷◌, Option, Some, None, is_some}
use Rattle.std.proofs.Common.{length, inl}
use Rattle.std.proofs.lemmas.Bool.{false≢true}
use Rattle.sgx_rules.specs.declared.entries.Entry.{Entry}
use Rattle.sgx_rules.specs.declared.entries.Action.TheVariants.{EldStart, EwbStart}
use Rattle.sgx_rules.specs.declared.entries.Event.{Event}
use Rattle.sgx_rules.specs.declared.entries.Event.TheVariants.{Age, Bus, Did, Kick, Refused}
use Rattle.sgx_types.specs.declared.names.Actor.{Actor}
use Rattle.sgx_types.specs.declared.names.Actor.TheVariants as actors
use Rattle.sgx_types.specs.declared.names.Frame.{Frame}
use Rattle.sgx_types.specs.declared.names.Page.{Page}
use Rattle.sgx_types.specs.Making.{Making}
use Rattle.sgx_rules.specs.Rules.{Along}
use Rattle.cached_translations.specs.declared.processor.Mode.{Mode}
use Rattle.seal_record.specs.inner.Sealing.{made_by}
use Rattle.job_grammar.specs.Jobs.{JobView}
use Rattle.script_rules.specs.Machines.{machine_of}
use Rattle.machine_laws.proofs.ColumnLaws.{start_is}
use Rattle.sgx_machine.specs.declared.starts.Start as starts
use Rattle.sgx_machine.specs.inner.Parts.{Parts, start_of, state_of}
use Rattle.driver_rules.specs.Ages.{AgeRule, KickRule}
use Rattle.driver_rules.specs.inner.Decided.{is_ended, keeps_age, keeps_age_by, keeps_kick, keeps_script}
use Rattle.driver_rules.specs.Places.{place}
use Rattle.driver_rules.specs.Scripts.{ScriptRule}
use Rattle.driver_rules.specs.Spares.{Outs, outs}
use Rattle.driver_laws.specs.inner.Agrees.{auditors, Keeping}
use Rattle.driver_laws.proofs.SoundLaws.{entry_of}
use Rattle.driver_rules.proofs.DecidedLaws.{age_tells, kick_tells, script_tells}
use Rattle.driver_tables.specs.inner.Tells.{Tells}
use Rattle.driver_tables.specs.declared.driver.Driver.{Driver}
use Rattle.driver_tables.specs.inner.Held.{ShowsHolds}
use Rattle.history_rules.specs.declared.rules.Rule.{Rule}
use Rattle.history_rules.specs.declared.rules.Rule.TheVariants as rules
use Rattle.history_rules.specs.Histories.{Before, FailsHere, RuleSays}
use Rattle.history_rules.specs.inner.Histories.{GoesOn}
use Rattle.run_laws.proofs.EntryLaws.{is_among}
use Rattle.due_tables.specs.inner.Due.{IsOrderly, IsReady, IsShown}
use Rattle.due_tables.specs.inner.Ending.{EndsAreTold}
use Rattle.due_tables.specs.inner.Holding.{mode_of}
use Rattle.due_tables.specs.inner.Noting.{IsAmong}
use Rattle.due_tables.specs.inner.Shown.{ShowsTurns}
use Rattle.audit_machine.specs.inner.Rivals.{KeepsMachines}
use Rattle.audit_tables.proofs.AgreeLaws.{tells_by_rules, tells_shown}
use Rattle.history_machine.proofs.SomeLaws.{first_of_all}
use Rattle.audit_machine.proofs.KeptLaws.{last_kept}
use Rattle.audit_machine.specs.inner.Kept.{KeepsRecords, Kept, Records, records_of}
use Rattle.audit_check.specs.inner.Asks as asks
use Rattle.audit_check.specs.inner.Asks.{CanCheck, IsAnswered}
use Rattle.audit_check.specs.inner.Tests.{IsActor}
use Rattle.driver_pass.specs.inner.Dues.{CanBeDue, HasAllSlots, ShowsOuts}
use Rattle.driver_pass.specs.inner.Noted.{gone_by, IsSeen}
use Rattle.driver_pass.specs.inner.Standing.{StandsAt}
use Rattle.driver_pass.specs.inner.Viewed.{PassView}
use Rattle.driver_pass.proofs.DueLaws.{can_be_due}
use Rattle.audit_tables.specs.inner.Followed.{frame_begun, frame_ended}
use Rattle.audit_tables.proofs.SpareLaws.{looked_here}
use Rattle.audit_tables.proofs.StartLaws.{here_there}
use Rattle.audit_trace.specs.declared.auditing.Auditing.{Auditing}
use Rattle.audit_trace.specs.inner.Audits.{CanFollow, IsAuditing, IsJudged, KeepsAudit}
use Rattle.audit_trace.proofs.AskLaws.{taken}
use Rattle.audit_trace.proofs.OutLaws.{all_slots, outs_shown}
use Rattle.audit_trace.proofs.RuleLaws.{age_fails, goes_on_more, kick_fails, script_fails}

-- each entry is its actor's next
along : (j : JobView) (past : List Entry) → Before (RuleSays j rules.Script) past → Along (ScriptRule j) past
along j [] h = tt
along j (x ∷ before) h = (h.0, along j before h.1)

module _ (j : JobView) (a : Auditing) (at : IsAuditing j a) where
  pub its_tables : Tells auditors (machine_of j) j at.past a.driver a.machine
  its_tables = tells_by_rules j at.past a.driver a.machine a.turns at.keeps.trace

  pub its_shown : IsShown auditors j at.past a.driver a.machine
  its_shown = tells_shown auditors (machine_of j) j at.past a.driver a.machine its_tables

  pub ready : IsReady j a.driver a.machine a.turns
  ready = record { keeping = auditors; past = at.past; shown = its_shown; shows = at.keeps.trace.turns }

  pub can_check : CanCheck a.machine (records_of a.records)
  can_check = record {
    j = j;
    cpus = length j.scripts;
    past = at.past;
    checked = record { stands = at.keeps.trace.stands; records = at.keeps.records };
  }

  pub ended_told : (b : Bool) → ((k : Keeping) (past : List Entry) → IsShown k j past a.driver a.machine → ShowsTurns j past a.turns
      → Along (ScriptRule j) past → EndsAreTold past → b ≡ is_ended j past) → b ≡ is_ended j at.past
  ended_told b told =
      told auditors at.past its_shown at.keeps.trace.turns (along j at.past at.keeps.trace.goes_on.script) at.keeps.trace.ends

module _ (j : JobView) (a : Auditing) (e : Entry) (at : IsAuditing j a) where
  abbrev past : List Entry
  past = at.past

  tells : Tells auditors (machine_of j) j at.past a.driver a.machine
  tells = its_tables j a at

  -- ---- Script

  -- what is told of Script is so
  abbrev ToldScript : Bool → Type 0
  ToldScript b = (k : Keeping) (past : List Entry) → IsShown k j past a.driver a.machine → IsOrderly j past → ShowsTurns j past a.turns
      → b ≡ keeps_script j past e

  script_is : (b : Bool) → ToldScript b → b ≡ keeps_script j past e
  script_is b told = told auditors past (its_shown j a at) at.keeps.trace.orderly at.keeps.trace.turns

  pub script_kept : (b : Bool) → ToldScript b → b ≡ true → ScriptRule j past e
  script_kept b told is = (script_tells j past e).0 (sym (script_is b told) ∙ is)

  pub script_broken : (b : Bool) → ToldScript b → b ≡ false → FailsHere j past (Some e) rules.Script
  script_broken b told is =
      script_fails j past (Some e) (λ h. false≢true (sym is ∙ script_is b told ∙ (script_tells j past e).1 h))

  module _ (script : ScriptRule j past e) where
    pub among : IsAmong (length a.machine.cpus) e.actor
    among = subst (λ n. IsAmong n e.actor)
        (at.keeps.trace.turns.each ∙ sym (at.keeps.trace.cpus ∙ at.keeps.trace.shows.cpus))
        (is_among j past a.turns e.actor e.event at.keeps.trace.turns.each script.next)

    pub is_actor : IsActor (length a.machine.cpus) e.actor
    is_actor = by_actor e.actor among
      where
        by_actor : (x : Actor) → IsAmong (length a.machine.cpus) x → IsActor (length a.machine.cpus) x
        by_actor (actors.Cpu p) low = inl low
        by_actor actors.Builder low = tt
        by_actor actors.Reclaimer low = tt

    module _ (t : Parts) (kept : Records) (broken : Option Rule)
        (told : (can : CanCheck a.machine (records_of a.records)) → IsAnswered can.j can.cpus can.past a.machine e t kept broken) where
      answered : IsAnswered j (length j.scripts) past a.machine e t kept broken
      unfolding can_check
      answered = told (can_check j a at)

      pub broken_judged : (new : Auditing) → is_some broken ≡ true → IsJudged j past e new broken
      broken_judged new some = by_answer broken some answered
        where
          by_answer : (o : Option Rule) → is_some o ≡ true → IsAnswered j (length j.scripts) past a.machine e t kept o
              → IsJudged j past e new o
          by_answer None some said = absurd (false≢true some)
          by_answer (Some rule) some said = first_of_all j past e rule script said

      pub asked_by : is_some broken ≡ false → asks.IsTakenWith j (length j.scripts) past a.machine e t kept
      asked_by none = by_answer broken none answered
        where
          by_answer : (o : Option Rule) → is_some o ≡ false → IsAnswered j (length j.scripts) past a.machine e t kept o
              → asks.IsTakenWith j (length j.scripts) past a.machine e t kept
          by_answer None none said = said
          by_answer (Some rule) none said = absurd (false≢true (sym none))

    -- ---- Age and Kick

    abbrev ToldAge : Bool → Type 0
    ToldAge b = (k : Keeping) (made : Making) (j : JobView) (past : List Entry) (out : Outs) → Tells k made j past a.driver a.machine
        → HasAllSlots k → ShowsOuts a.driver.slots past out → ShowsHolds j a.driver.active.own past
        → StandsAt made.first_epoch j past a.pass → b ≡ keeps_age_by j past out e

    age_is : (b : Bool) → ToldAge b → b ≡ keeps_age j past e
    age_is b told =
        told auditors (machine_of j) j past (outs j past) tells all_slots (outs_shown (machine_of j) j past a.driver a.machine tells)
        at.keeps.trace.holds.shows at.keeps.pass

    abbrev ToldKick : Bool → Type 0
    ToldKick b = (k : Keeping) (made : Making) (j : JobView) (past : List Entry) (d : Driver) → Tells k made j past d a.machine
        → StandsAt made.first_epoch j past a.pass → b ≡ keeps_kick j past e

    kick_is : (b : Bool) → ToldKick b → b ≡ keeps_kick j past e
    kick_is b told = told auditors (machine_of j) j past a.driver tells at.keeps.pass

    -- what is due besides can be asked for
    pub can_be : CanBeDue a.driver (state_of a.machine) a.pass.behind
    can_be = can_be_due auditors (machine_of j) j past a.driver a.machine tells a.pass at.keeps.pass

    -- a page that is looked at has its place
    pub seen : (b : Bool) → ToldAge b → b ≡ true → IsSeen a.driver e.actor e.event
    seen b told is = by_entry e.actor e.event ((age_tells j past (outs j past) e).0 (sym (age_is b told) ∙ is))
      where
        by_entry : (x : Actor) (ev : Event) → AgeRule j past (entry_of x ev) → IsSeen a.driver x ev
        by_entry actors.Reclaimer (Age page look) age =
            tells.shows.placed page (here_there (place past page) (looked_here j past page look tells.sound age))
        by_entry actors.Reclaimer (Did action answer) age = tt
        by_entry actors.Reclaimer (Refused action refusal) age = tt
        by_entry actors.Reclaimer (Kick cpu) age = tt
        by_entry actors.Reclaimer (Bus page reason) age = tt
        by_entry actors.Builder ev age = tt
        by_entry (actors.Cpu c) ev age = tt

    module _ (t : Parts) (kept : Records) (asked : asks.IsTakenWith j (length j.scripts) past a.machine e t kept) where
      machines : KeepsMachines j past e
      machines = last_kept j (length j.scripts) (state_of t) past e (made_by j.key (e ∷ past)) asked.checked.stands

      pub age_broken : (b : Bool) → ToldAge b → b ≡ false → FailsHere j past (Some e) rules.Age
      age_broken b told is = age_fails j past e script machines
          (λ h. false≢true (sym is ∙ age_is b told ∙ (age_tells j past (outs j past) e).1 h))

      module _ (b : Bool) (told : ToldAge b) (yes : b ≡ true) where
        age : AgeRule j past e
        age = (age_tells j past (outs j past) e).0 (sym (age_is b told) ∙ yes)

        pub kick_broken : (k : Bool) → ToldKick k → k ≡ false → FailsHere j past (Some e) rules.Kick
        kick_broken k said is =
            kick_fails j past e script machines age (λ h. false≢true (sym is ∙ kick_is k said ∙ (kick_tells j past e).1 h))

        module _ (k : Bool) (said : ToldKick k) (too : k ≡ true) where
          kick : KickRule j past e
          kick = (kick_tells j past e).0 (sym (kick_is k said) ∙ too)

          goes : GoesOn j (e ∷ past)
          goes = goes_on_more j (state_of t) past e (made_by j.key (e ∷ past)) at.keeps.trace.goes_on script asked.checked.stands age kick

          module _ (v : PassView) (pairs : List (Page × Kept)) (same : records_of pairs ≡ kept)
              (cpus : length t.cpus ≡ length a.machine.cpus)
              (before : Mode) (start : Option starts.Start) (stood : before ≡ mode_of a.machine e.actor)
              (ends : (f : Frame) → frame_ended e.event ≡ Some f → start_of start ≡ (state_of a.machine).start f.0)
              (begins : (f : Frame) → frame_begun e.event ≡ Some f → start_of start ≡ (state_of t).start f.0)
              (gone : b ≡ true → v ≡ gone_by a.driver a.machine e.actor e.event a.pass) where
            pub can_follow : CanFollow j (record a { pass = v; machine = t; records = pairs }) before start e
            can_follow = record {
              past = past;
              m = a.machine;
              v = a.pass;
              trace = at.keeps.trace;
              arrays = at.keeps.arrays;
              taken = taken j past e script age a.machine t kept among asked cpus;
              pass = at.keeps.pass;
              gone = gone yes;
              goes_on = goes;
              records = subst (KeepsRecords j.key (e ∷ past)) (sym same) asked.checked.records;
              stood = stood;
              ended = λ f is. ends f is ∙ start_is at.keeps.trace.stands.shaped.shape.columns f.0;
              begun = λ f is. begins f is ∙ start_is asked.checked.stands.shaped.shape.columns f.0;
              few = at.few;
            }

            -- whatever all stands for behind it, it does for this trace
            pub judged : (last : Auditing)
                → ((can : CanFollow j (record a { pass = v; machine = t; records = pairs }) before start e)
                → KeepsAudit j (e ∷ can.past) last)
                → KeepsAudit j (e ∷ past) last
            unfolding can_follow
            judged last told = told can_follow

-- ---- the start that an entry ends or opens

-- an event that ends a start opens none
none_begun : (event : Event) (f : Frame) → frame_ended event ≡ Some f → frame_begun event ≡ None
none_begun (Did (EwbStart n at) answer) f is = cc
none_begun (Did (EldStart n page at) answer) f is = cc
none_begun (Did action answer) f is = refl
none_begun (Refused action refusal) f is = refl
none_begun (Age page look) f is = refl
none_begun (Kick cpu) f is = refl
none_begun (Bus page reason) f is = refl

pub still_ended : (event : Event) (ended start : Option starts.Start) (m : Parts)
    → ((f : Frame) → frame_ended event ≡ Some f → start_of ended ≡ (state_of m).start f.0)
    → (frame_begun event ≡ None → start ≡ ended)
    → (f : Frame) → frame_ended event ≡ Some f → start_of start ≡ (state_of m).start f.0
still_ended event ended start m told others f is = ap start_of (others (none_begun event f is)) ∙ told f is
