-- The machine has made an entry that keeps each rule: it was asked for by who may make it.
use Rattle.std.specs.Prelude.{slice_get, nat_lt, not, ◌&&◌}
use Rattle.std.proofs.Common.{◌≡◌, ℕ, ◌<◌, ◌⊎◌, inl, inr, Bool, true, false, refl, sym}
use Rattle.std.proofs.Common.{ap, subst, ◌∙◌, cond, arith, List, ◌∷◌, Option, Some, None, length}
use Rattle.std.proofs.lemmas.Bool.{false≢true}
use Rattle.std.proofs.lemmas.Option.{none-some, same_Some}
use Rattle.sgx_rules.specs.declared.entries.Action.{Action}
use Rattle.sgx_rules.specs.declared.entries.Action.TheVariants.{Block, Eld, Enter, Ewb, EwbStart, Track}
use Rattle.sgx_types.specs.declared.names.Actor.{Actor}
use Rattle.sgx_types.specs.declared.names.Actor.TheVariants as actors
use Rattle.sgx_rules.specs.declared.entries.Answer.{Answer}
use Rattle.sgx_rules.specs.declared.entries.Entry.{Entry}
use Rattle.sgx_rules.specs.declared.entries.Event.{Event}
use Rattle.sgx_rules.specs.declared.entries.Event.TheVariants.{Did, Refused}
use Rattle.sgx_rules.specs.declared.refusals.Refusal.{Refusal}
use Rattle.sgx_types.specs.declared.names.Page.{Page}
use Rattle.sgx_types.proofs.Truths.{tested}
use Rattle.seal_record.specs.inner.Sealing.{made_by}
use Rattle.job_grammar.specs.Jobs.{JobView}
use Rattle.script_rules.specs.declared.steps.BuildStep.{BuildStep}
use Rattle.script_rules.specs.declared.steps.BuildStep.TheVariants as builds
use Rattle.script_rules.specs.Script.{action_of, build_of, built, with_frame}
use Rattle.machine_laws.specs.inner.Notes.{IsNote}
use Rattle.machine_laws.specs.inner.Steps.{is_of_cpus}
use Rattle.sgx_machine.specs.inner.Parts.{Parts, state_of}
use Rattle.driver_rules.specs.Ages.{AgeRule, Ahead, EndsNext, GoesOn, InPass, IsAhead, IsInTries, Looks, TriesNext, ahead}
use Rattle.driver_rules.specs.Dues.{Due, Finished, IsNext, Makes, Stopped, Waits, makes_or}
use Rattle.driver_rules.specs.Passes.{Between, Blocking, Pass, Scan, Tries, pass}
use Rattle.driver_rules.specs.Scripts.{IsActors, ScriptRule}
use Rattle.driver_rules.specs.Spares.{outs}
use Rattle.driver_rules.specs.Stops.{is_spent}
use Rattle.driver_rules.specs.Turns.{builder_due, step_turn}
use Rattle.driver_rules.specs.declared.waits.Why.TheVariants as waits
use Rattle.due_notes.specs.inner.Plain.{is_plain}
use Rattle.due_tables.specs.inner.Entries.{EntersApart}
use Rattle.due_tables.specs.inner.Noting.{IsAmong}
use Rattle.due_tables.proofs.OrderLaws.{enters_apart}
use Rattle.audit_machine.specs.inner.Kept.{Records}
use Rattle.audit_check.specs.inner.Asks as asks
use Rattle.audit_check.specs.inner.Tests.{is_commit, is_outsiders}
use Rattle.audit_check.proofs.AskLaws.{can_apply, note_of}
use Rattle.audit_trace.specs.inner.Audits.{IsTaken}

-- two names of one instruction
same-action : (event : Event) (a b : Action) → action_of event ≡ Some a → action_of event ≡ Some b → a ≡ b
same-action event a b one other = same_Some _ _ (sym one ∙ other)

-- ---- whose instructions are whose

-- the builder makes no instruction of processors
abbrev OfBuilder : Due → Type 0
OfBuilder (Makes action) = is_of_cpus action ≡ false
OfBuilder Stopped = Unit {0}
OfBuilder Finished = Unit {0}
OfBuilder (Waits why) = Unit {0}
OfBuilder _ = ⊥

step-builds : (step : BuildStep) (f : Option ℕ) → OfBuilder (makes_or waits.NoFrame (with_frame step f))
step-builds step None = tt
step-builds builds.Va (Some f) = refl
step-builds (builds.Create e b s) (Some f) = refl
step-builds (builds.Add e n k p i) (Some f) = refl
step-builds (builds.Extend e n c) (Some f) = refl
step-builds (builds.Init e x) (Some f) = refl

due-builds : (j : JobView) (past : List Entry) (step : Option BuildStep) → OfBuilder (step_turn j past step)
due-builds j past None = tt
due-builds j past (Some (builds.Init e x)) = refl
due-builds j past (Some (builds.Extend e n c)) = step-builds (builds.Extend e n c) _
due-builds j past (Some builds.Va) = step-builds builds.Va _
due-builds j past (Some (builds.Create e b s)) = step-builds (builds.Create e b s) _
due-builds j past (Some (builds.Add e n k p i)) = step-builds (builds.Add e n k p i) _

builder-builds : (j : JobView) (past : List Entry) → OfBuilder (builder_due j past)
builder-builds j past = by_spent (is_spent past)
  where
    by_spent : (b : Bool) → OfBuilder (cond b Stopped (step_turn j past (slice_get (build_of j) (built past))))
    by_spent true = tt
    by_spent false = due-builds j past (slice_get (build_of j) (built past))

not-built : (d : Due) (event : Event) (action : Action) → OfBuilder d → IsNext d event
    → action_of event ≡ Some action → is_of_cpus action ≡ false
not-built (Makes due) event action of next own = ap is_of_cpus (same-action event action due own next) ∙ of
not-built Stopped event action of next own = absurd next
not-built Finished event action of next own = absurd next
not-built (Waits why) event action of next own = absurd next
not-built d event action of next own = absurd of

-- ---- the reclaimer makes none of them

no-try : (past : List Entry) (g : Page) (action : Action) (answer : Answer) → is_of_cpus action ≡ true
    → IsInTries past g (Did action answer)
    → ⊥
no-try past g (EwbStart f slot) answer own h = cc
no-try past g (Ewb f) answer own h = cc
no-try past g (Track enclave) answer own h = cc
no-try past g action answer own h = h

no-refused-try : (past : List Entry) (g : Page) (action : Action) (r : Refusal) → is_of_cpus action ≡ true
    → IsInTries past g (Refused action r) → ⊥
no-refused-try past g (EwbStart f slot) r own h = cc
no-refused-try past g (Ewb f) r own h = cc
no-refused-try past g (Track enclave) r own h = cc
no-refused-try past g action r own h = h

no-pass : (past : List Entry) (at : Pass) (action : Action) (answer : Answer) → is_of_cpus action ≡ true
    → InPass past at (Did action answer) → ⊥
no-pass past (Between works) action answer own h = h
no-pass past (Scan left taken) action answer own h = h
no-pass past (Blocking due taken) (Block f) answer own h = cc
no-pass past (Blocking due taken) action answer own h = h
no-pass past (Tries g rest form) action answer own h = no-try past g action answer own h

no-refused-pass : (past : List Entry) (at : Pass) (action : Action) (r : Refusal) → is_of_cpus action ≡ true
    → InPass past at (Refused action r) → ⊥
no-refused-pass past (Between works) action r own h = h
no-refused-pass past (Scan left taken) action r own h = h
no-refused-pass past (Blocking due taken) action r own h = h
no-refused-pass past (Tries g rest form) action r own h = no-refused-try past g action r own h

-- .. nor is one ahead of it
no-ahead : (j : JobView) (past : List Entry) (at : Ahead) (action : Action) (answer : Answer) → is_of_cpus action ≡ true
    → IsAhead j past at (Did action answer) → ⊥
no-ahead j past GoesOn action answer own h = no-pass past (pass j past) action answer own h.in_pass
no-ahead j past (Looks g) action answer own h = h
no-ahead j past (TriesNext g) (EwbStart f slot) answer own h = cc
no-ahead j past (TriesNext g) action answer own h = h
no-ahead j past (EndsNext g) (Ewb f) answer own h = cc
no-ahead j past (EndsNext g) action answer own h = h

no-refused-ahead : (j : JobView) (past : List Entry) (at : Ahead) (action : Action) (r : Refusal) → is_of_cpus action ≡ true
    → IsAhead j past at (Refused action r) → ⊥
no-refused-ahead j past GoesOn action r own h = no-refused-pass past (pass j past) action r own h.in_pass
no-refused-ahead j past (Looks g) action r own h = h
no-refused-ahead j past (TriesNext g) (EwbStart f slot) r own h = cc
no-refused-ahead j past (TriesNext g) action r own h = h
no-refused-ahead j past (EndsNext g) action r own h = h

not-reclaimed : (j : JobView) (past : List Entry) (event : Event) (action : Action) → action_of event ≡ Some action
    → is_of_cpus action ≡ true → IsAhead j past (ahead j past (outs j past)) event → ⊥
not-reclaimed j past (Did one answer) action own of h =
    no-ahead j past (ahead j past (outs j past)) one answer (ap is_of_cpus (same_Some _ _ own) ∙ of) h
not-reclaimed j past (Refused one r) action own of h =
    no-refused-ahead j past (ahead j past (outs j past)) one r (ap is_of_cpus (same_Some _ _ own) ∙ of) h
not-reclaimed j past event action own of h = none-some _ own

-- ---- entries that are no entry into an enclave

commits-enter-none : (event : Event) (action : Action) → action_of event ≡ Some action → is_commit action ≡ true → EntersApart event
commits-enter-none (Did (Enter enclave tcs tf sf) answer) action own h =
    absurd (false≢true (ap is_commit (same_Some _ _ own) ∙ h))
commits-enter-none event action own h = tt

notes-enter-none : (event : Event) → IsNote event → EntersApart event
notes-enter-none (Did action answer) h = absurd h
notes-enter-none event h = tt

plain-no-commit : (action : Action) → is_plain action ≡ true → is_commit action ≡ false
plain-no-commit (Ewb f) h = cc h
plain-no-commit (Eld f) h = cc h
plain-no-commit action h = refl

is-inside : (p cpus : ℕ) → p < cpus → nat_lt p cpus ≡ true
is-inside p cpus low = grind (arith, low)

and-false : (b : Bool) → (b && false) ≡ false
and-false true = refl
and-false false = refl

module _ (j : JobView) (past : List Entry) (e : Entry) (script : ScriptRule j past e) (age : AgeRule j past e) (m t : Parts)
    (kept : Records)
    (among : IsAmong (length m.cpus) e.actor) (asked : asks.IsTakenWith j (length j.scripts) past m e t kept)
    (cpus : length t.cpus ≡ length m.cpus) where
  -- who made it is a processor of the machine where only those may
  not-outsider : (action : Action) → action_of e.event ≡ Some action → is_outsiders (length m.cpus) e.actor action ≡ false
  not-outsider action own = by_actor e.actor among script.next age
    where
      by_actor : (a : Actor) → IsAmong (length m.cpus) a → IsActors j past a e.event
          → AgeRule j past (record { actor = a; event = e.event }) → is_outsiders (length m.cpus) a action ≡ false
      by_actor (actors.Cpu p) low next h =
          ap (λ b. is_of_cpus action && not b) (is-inside p.0 (length m.cpus) low) ∙ and-false (is_of_cpus action)
      by_actor actors.Builder low next h =
          ap (λ b. b && true) (not-built (builder_due j past) e.event action (builder-builds j past) next own)
      by_actor actors.Reclaimer low next h = by_test (tested (is_of_cpus action))
        where
          by_test : (is_of_cpus action ≡ true) ⊎ (is_of_cpus action ≡ false) → is_outsiders (length m.cpus) actors.Reclaimer action ≡ false
          by_test (inl of) = absurd (not-reclaimed j past e.event action own of h)
          by_test (inr other) = ap (λ b. b && true) other

  made-row : (action : Action) → action_of e.event ≡ Some action → is_commit action ≡ false → EntersApart e.event
  made-row action own row =
      let none = not-outsider action own in
      enters_apart (length m.cpus) (state_of m) e.actor action e (state_of t) (can_apply (length m.cpus) e.actor action row none)
      (asked.step action own row none)

  enters : (o : Option Action) → action_of e.event ≡ o → EntersApart e.event
  enters None none = notes-enter-none e.event (note_of e.event none)
  enters (Some action) own = by_row (tested (is_commit action))
    where
      by_row : (is_commit action ≡ true) ⊎ (is_commit action ≡ false) → EntersApart e.event
      by_row (inl commit) = commits-enter-none e.event action own commit
      by_row (inr row) = made-row action own row

  pub taken : IsTaken j past m e t
  taken = record {
    stands = asked.checked.stands;
    cpus = cpus;
    step = λ action own plain. asked.step action own (plain-no-commit action plain) (not-outsider action own);
    enters = enters (action_of e.event) refl;
  }
