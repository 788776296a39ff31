-- An instruction of processors by who is none of them keeps the processor's rules, or breaks the one that is told, and none before it.
use Rattle.std.specs.Prelude.{if◌then◌else◌, nat_lt}
use Rattle.std.proofs.Common.{◌≡◌, ℕ, ◌≤◌, Bool, true, false, refl, sym, ap, subst, ◌∙◌, List, [], ◌∷◌, Option, Some, None, is_some, arith}
use Rattle.std.proofs.lemmas.Bool.{false≢true}
use Rattle.std.proofs.lemmas.Option.{none-some, same_Some}
use Rattle.sgx_types.specs.declared.names.Actor.{Actor}
use Rattle.sgx_types.specs.declared.names.Actor.TheVariants as actors
use Rattle.sgx_rules.specs.declared.entries.Entry.{Entry}
use Rattle.sgx_rules.specs.declared.entries.Event.{Event}
use Rattle.sgx_rules.specs.declared.entries.Event.TheVariants.{Did, Refused}
use Rattle.sgx_rules.specs.declared.entries.Action.{Action}
use Rattle.sgx_rules.specs.declared.entries.Action.TheVariants.{Add, Block, Create, Eld, EldStart, Epa}
use Rattle.sgx_rules.specs.declared.entries.Action.TheVariants.{Ewb, EwbStart, Extend, Fill, Init, Track}
use Rattle.sgx_rules.specs.declared.entries.Answer.{Answer}
use Rattle.sgx_rules.specs.declared.refusals.Refusal.{Refusal}
use Rattle.sgx_rules.specs.Processors.{Stay, stay}
use Rattle.sgx_rules.specs.Flat.{FlatMemory, accepts, flat, is_processors, is_visible}
use Rattle.sgx_rules.specs.Rules.{FlatRule, RefusalRule}
use Rattle.sgx_rules.specs.Sights.{row_at, sight_at, stay_of}
use Rattle.sgx_types.specs.Cases.{first_of_row}
use Rattle.seal_record.specs.Records.{Made}
use Rattle.job_grammar.specs.Jobs.{JobView}
use Rattle.sgx_types.specs.Making.{Making}
use Rattle.script_rules.specs.Machines.{machine_of}
use Rattle.script_rules.specs.Script.{action_of}
use Rattle.machine_laws.specs.inner.Histories.{StandsWithAllRules}
use Rattle.machine_laws.specs.inner.State.{State, row_outside}
use Rattle.machine_laws.specs.inner.Steps.{IsNoProcessor, did_by, is_of_cpus, refused_by}
use Rattle.machine_laws.proofs.AccessLaws.{outside_refused}
use Rattle.machine_laws.proofs.ProcessorLaws.{mode_by_entries}
use Rattle.machine_laws.proofs.RowLaws.{row_outside_agrees}
use Rattle.history_rules.specs.declared.rules.Rule.TheVariants as rules
use Rattle.audit_machine.specs.inner.Forms.{has_form}
use Rattle.audit_machine.specs.inner.Same.{same_refusal}
use Rattle.audit_machine.proofs.FormLaws.{has_its_form, is_apart, is_of_its_form}
use Rattle.audit_machine.proofs.OrderLaws.{flat_fails, refusal_fails}
use Rattle.audit_machine.proofs.SameLaws.{ends_apart, refusal_same}
use Rattle.audit_machine.specs.inner.Asked.{Breaks, GoesOnWith, Takes, made_for}
use Rattle.audit_machine.specs.inner.Outside.{rule_of_done, rule_of_refused}
use Rattle.audit_machine.proofs.AskLaws.{with_none}

-- ---- processors' instructions

-- the answer of each has a form that a test tells
not_apart : (action : Action) → is_of_cpus action ≡ true → is_apart action ≡ false
not_apart (Epa f) own = absurd cc
not_apart (Ewb f) own = absurd cc
not_apart (EldStart f page slot) own = absurd cc
not_apart (Eld f) own = absurd cc
not_apart action own = refl

module _ (j : JobView) (past : List Entry) (a : Actor) where
  -- the first case of the row, by the entries
  abbrev first : Action → Option Refusal
  first action = first_of_row (row_at (machine_of j) past a action)

  -- what is refused is refused by the row
  refusal_is : (action : Action) (r : Refusal) → is_of_cpus action ≡ true → RefusalRule (machine_of j) past (refused_by a action r)
      → first action ≡ Some r
  refusal_is (Init enclave expect) r own h = absurd cc
  refusal_is (Ewb f) r own h = absurd cc
  refusal_is (Eld f) r own h = absurd cc
  refusal_is action r own h = h

-- ---- who is no processor

-- flat memory takes none of its instructions
seen : (action : Action) → is_processors action ≡ true → is_visible action ≡ true
seen (Epa f) own = cc own
seen (Create enclave f base size) own = refl
seen (Add enclave number f kind perm init) own = refl
seen (Extend f chunk) own = refl
seen (Init enclave expect) own = refl
seen (Fill number f) own = cc own
seen (Block f) own = cc own
seen (Track enclave) own = cc own
seen (EwbStart f slot) own = cc own
seen (Ewb f) own = cc own
seen (EldStart f page slot) own = cc own
seen (Eld f) own = cc own
seen action own = refl

not_accepted : (m : FlatMemory) (a : Actor) (action : Action) → is_processors action ≡ true → IsNoProcessor a → accepts m a action ≡ false
not_accepted m (actors.Cpu p) action own nobody =
    let high : nat_lt p.0 16 ≡ false = grind (arith, nobody) in rw (own, high) refl
not_accepted m actors.Builder action own nobody = rw own refl
not_accepted m actors.Reclaimer action own nobody = rw own refl

-- .. and a fill from outside is never allowed
not_flat : (j : JobView) (past : List Entry) (a : Actor) (action : Action) (answer : Answer) → is_of_cpus action ≡ true → IsNoProcessor a
    → stay_of past a ≡ None → first j past a action ≡ None → FlatRule past (did_by a action answer) → ⊥
not_flat j past a (Fill number f) answer own nobody outside none h = outside_refused number (sight_at j.epc past f.0) (rw outside at none)
not_flat j past a action answer own nobody outside none h =
    false≢true (sym (not_accepted (flat past) a action own nobody) ∙ (h (seen action own)).taken)

module _ (s : State) (few : (p : ℕ) → 16 ≤ p → s.inside p ≡ None) (e : Entry) (action : Action) (same : action_of e.event ≡ Some action)
    (own : is_of_cpus action ≡ true) (nobody : IsNoProcessor e.actor) where
  -- it is inside no enclave
  outside : (k : Making) (past : List Entry) (records : List Made) → StandsWithAllRules k s past records → stay_of past e.actor ≡ None
  outside k past records h = by_actor e.actor nobody
    where
      none-inside : (o : Option Stay) → is_some o ≡ false → o ≡ None
      none-inside None is = refl
      none-inside (Some x) is = cc is

      by_actor : (a : Actor) → IsNoProcessor a → stay_of past a ≡ None
      by_actor (actors.Cpu p) past-all = none-inside (stay past p.0)
          (sym (mode_by_entries s past h.standing.stands p.0) ∙ ap is_some (few p.0 past-all))
      by_actor actors.Builder past-all = refl
      by_actor actors.Reclaimer past-all = refl

  -- the row by the entries is the one that the machine looked at
  agrees : (j : JobView) (cpus : ℕ) (past : List Entry) (records : List Made) → StandsWithAllRules (made_for j cpus) s past records
      → first j past e.actor action ≡ first_of_row (row_outside s action)
  agrees j cpus past records h =
      sym (row_outside_agrees s past e.actor action own (outside (made_for j cpus) past records h) h.standing.stands
      ∙ ap (λ k. first_of_row (row_at k past e.actor action)) h.shaped.shape.making)

  -- the entry by its event
  done-as : (one : Action) (answer : Answer) → e.event ≡ Did one answer → e ≡ did_by e.actor action answer
  done-as one answer is =
      let act : one ≡ action = same_Some _ _ (sym (ap action_of is) ∙ same) in
      let event : e.event ≡ Did action answer = is ∙ (λ i. Did (act i) answer) in
      λ i. record { actor = e.actor; event = event i }

  refused-as : (one : Action) (r : Refusal) → e.event ≡ Refused one r → e ≡ refused_by e.actor action r
  refused-as one r is =
      let act : one ≡ action = same_Some _ _ (sym (ap action_of is) ∙ same) in
      let event : e.event ≡ Refused action r = is ∙ (λ i. Refused (act i) r) in
      λ i. record { actor = e.actor; event = event i }

  -- ---- where no case of the row holds

  module _ (allowed : first_of_row (row_outside s action) ≡ None) where
    by-form : (answer : Answer) (b : Bool) → has_form action answer ≡ b
        → Breaks s (did_by e.actor action answer) (if b then rules.Flat else rules.Refusal)
    by-form answer true is j cpus past records h =
        let none = agrees j cpus past records h ∙ allowed in
        flat_fails j past (did_by e.actor action answer) (none, has_its_form past action answer is)
        (not_flat j past e.actor action answer own nobody (outside (made_for j cpus) past records h) none)
    by-form answer false is j cpus past records h =
        refusal_fails j past (did_by e.actor action answer) (λ told.
        false≢true (sym is ∙ is_of_its_form past action answer (not_apart action own) told.1))

    refused-breaks : (r : Refusal) → Breaks s (refused_by e.actor action r) rules.Refusal
    refused-breaks r j cpus past records h =
        refusal_fails j past (refused_by e.actor action r) (λ told.
        none-some _ (sym (agrees j cpus past records h ∙ allowed) ∙ refusal_is j past e.actor action r own told))

    pub done_breaks : Breaks s e (rule_of_done e.event)
    done_breaks = by_event e.event refl
      where
        by_event : (event : Event) → e.event ≡ event → Breaks s e (rule_of_done event)
        by_event (Did one answer) is =
            let act : action ≡ one = sym (same_Some _ _ (sym (ap action_of is) ∙ same)) in
            subst (λ x. Breaks s e (rule_of_done (Did x answer))) act
            (subst (λ x. Breaks s x (rule_of_done (Did action answer))) (sym (done-as one answer is))
            (by-form answer (has_form action answer) refl))
        by_event (Refused one r) is = subst (λ x. Breaks s x rules.Refusal) (sym (refused-as one r is)) (refused-breaks r)
        by_event event is = absurd (none-some _ (sym (ap action_of is) ∙ same))

  -- ---- where this is the first that holds

  module _ (found : Refusal) (refused : first_of_row (row_outside s action) ≡ Some found)
      (history : (k : Making) (past : List Entry) (records : List Made) → StandsWithAllRules k s past records
      → StandsWithAllRules k s (refused_by e.actor action found ∷ past) records) where
    by-reason : (r : Refusal) (b : Bool) → same_refusal r found ≡ b
        → Takes s (refused_by e.actor action r) s (if b then None else Some rules.Refusal)
    by-reason r true is =
        subst (λ x. GoesOnWith s (refused_by e.actor action x) [] s) (sym (refusal_same r found is))
        (with_none s s (refused_by e.actor action found) history)
    by-reason r false is = λ j cpus past records h.
        refusal_fails j past (refused_by e.actor action r) (λ told.
        ends_apart (Refused action r) (Refused action found) action refl is
        (ap (Refused action) (same_Some _ _ (sym (refusal_is j past e.actor action r own told) ∙ agrees j cpus past records h ∙ refused))))

    done-refused : (answer : Answer) → Breaks s (did_by e.actor action answer) rules.Refusal
    done-refused answer j cpus past records h =
        refusal_fails j past (did_by e.actor action answer) (λ told.
        none-some _ (sym told.0 ∙ agrees j cpus past records h ∙ refused))

    pub refused_takes : Takes s e s (rule_of_refused found e.event)
    refused_takes = by_event e.event refl
      where
        by_event : (event : Event) → e.event ≡ event → Takes s e s (rule_of_refused found event)
        by_event (Did one answer) is = subst (λ x. Breaks s x rules.Refusal) (sym (done-as one answer is)) (done-refused answer)
        by_event (Refused one r) is =
            subst (λ x. Takes s x s (rule_of_refused found (Refused one r))) (sym (refused-as one r is))
            (by-reason r (same_refusal r found) refl)
        by_event event is = absurd (none-some _ (sym (ap action_of is) ∙ same))
