-- What comes of asking the machine for the instruction of an entry.
use Rattle.std.specs.Prelude.{MatchOption, true, false}
use Rattle.std.proofs.Common.{◌≡◌, ℕ, refl, sym, subst, inl, inr, List, [], ◌∷◌, ◌++◌, Option, Some}
use Rattle.std.proofs.Common.{None}
use Rattle.std.proofs.lemmas.List.{append-nil}
use Rattle.std.proofs.lemmas.Option.{none-some, same_Some}
use Rattle.sgx_rules.specs.declared.entries.Entry.{Entry}
use Rattle.sgx_rules.specs.declared.entries.Event.{Event}
use Rattle.sgx_rules.specs.declared.entries.Event.TheVariants.{Did, Refused}
use Rattle.sgx_types.specs.declared.names.Actor.{Actor}
use Rattle.sgx_rules.specs.declared.entries.Action.{Action}
use Rattle.sgx_rules.specs.declared.entries.Action.TheVariants.{Init, Eld}
use Rattle.sgx_rules.specs.declared.refusals.Refusal.{Refusal}
use Rattle.sgx_types.specs.Making.{Making}
use Rattle.sgx_types.specs.Cases.{first_of_row}
use Rattle.seal_record.specs.Records.{Made}
use Rattle.job_grammar.specs.Jobs.{JobView}
use Rattle.script_rules.specs.Script.{action_of}
use Rattle.machine_laws.specs.inner.Histories.{StandsWithAllRules}
use Rattle.machine_laws.specs.inner.State.{State, row_of}
use Rattle.machine_laws.specs.inner.Steps.{CanApply, IsDone, IsStep, refused_by}
use Rattle.history_rules.specs.declared.rules.Rule.{Rule}
use Rattle.history_rules.specs.inner.Histories.{is_machines}
use Rattle.history_machine.specs.Histories.{FailsAmong}
use Rattle.audit_machine.specs.inner.Rivals.{AreRivals, KeepsMachines, is_load_refused}
use Rattle.audit_machine.specs.inner.Same.{same_end}
use Rattle.audit_machine.proofs.SameLaws.{ends_alike, ends_apart}
use Rattle.audit_machine.specs.inner.Asked.{Breaks, GoesOnWith, made_for}
use Rattle.audit_machine.proofs.KeptLaws.{last_kept}

-- ---- the machine's entry is of the instruction that it was asked for

pub record IsMadeOf (actor : Actor) (action : Action) (e : Entry) : Type 0 where
  pub actor_is : e.actor ≡ actor
  pub action_is : action_of e.event ≡ Some action

pub made_of_it : (actor : Actor) (action : Action) (e made : Entry) → made.actor ≡ actor → action_of made.event ≡ Some action → e ≡ made
    → IsMadeOf actor action e
made_of_it actor action e made one other same = rw same (record { actor_is = one; action_is = other })

done-made : (s t : State) (actor : Actor) (action : Action) (e : Entry) → IsDone s actor action e t → IsMadeOf actor action e
done-made s t actor (Init enclave expect) e h = elim h.judged [
  | inl is ↦ made_of_it actor (Init enclave expect) e _ refl refl is.1
  | inr other ↦ made_of_it actor (Init enclave expect) e _ refl refl other.1
]
done-made s t actor action e h = made_of_it actor action e _ refl refl h.0

pub step_made : (s t : State) (actor : Actor) (action : Action) (e : Entry) → IsStep s actor action e t → IsMadeOf actor action e
step_made s t actor action e h = by_first (first_of_row (row_of s actor action)) h
  where
    by_first : (o : Option Refusal) → MatchOption o (IsDone s actor action e t) (λ refusal. (e ≡ refused_by actor action refusal) × (t ≡ s))
        → IsMadeOf actor action e
    by_first None done = done-made s t actor action e done
    by_first (Some refusal) refused = made_of_it actor action e _ refl refl refused.0

-- ---- an entry that is the machine's

pub alike : (action : Action) (e made : Entry) → action_of e.event ≡ Some action → IsMadeOf e.actor action made
    → same_end e.event made.event ≡ true → made ≡ e
alike action e made own is same =
    λ i. record { actor = is.actor_is i; event = sym (ends_alike e.event made.event action own is.action_is same) i }

pub taken : (s t : State) (action : Action) (e made : Entry) (more : List Made) → action_of e.event ≡ Some action
    → IsMadeOf e.actor action made → same_end e.event made.event ≡ true → GoesOnWith s made more t → GoesOnWith s e more t
taken s t action e made more own is same goes = subst (λ x. GoesOnWith s x more t) (alike action e made own is same) goes

pub with_none : (s t : State) (e : Entry) → ((k : Making) (past : List Entry) (records : List Made) → StandsWithAllRules k s past records
    → StandsWithAllRules k t (e ∷ past) records) → GoesOnWith s e [] t
with_none s t e goes k past records h =
    subst (λ all. StandsWithAllRules k t (e ∷ past) all) (sym (append-nil records)) (goes k past records h)

-- ---- an entry that is another

-- whatever rule is told of two rivals, of which the machine made the one
abbrev pub Tells : Entry → Entry → Rule → Type 0
Tells e made rule = (j : JobView) (past : List Entry) → AreRivals e made → KeepsMachines j past made
    → FailsAmong is_machines j past (Some e) rule

pub broken : (s t : State) (action : Action) (e made : Entry) (more : List Made) (rule : Rule) → action_of e.event ≡ Some action
    → IsMadeOf e.actor action made → is_load_refused e.event ≡ false → is_load_refused made.event ≡ false
    → same_end e.event made.event ≡ false → GoesOnWith s made more t → Tells e made rule → Breaks s e rule
broken s t action e made more rule own is ends ended unlike goes tells j cpus past records h =
    tells j past rivals (last_kept j cpus t past made (records ++ more) (goes (made_for j cpus) past records h))
  where
    rivals : AreRivals e made
    rivals = record {
      actor = sym is.actor_is;
      action = action;
      own = own;
      same = is.action_is;
      ends = ends;
      ended = ended;
      differ = ends_apart e.event made.event action own unlike;
    }

-- an instruction that the machine may be asked for is no end of a load
pub no_load : (cpus : ℕ) (actor : Actor) (event : Event) (action : Action) → action_of event ≡ Some action → CanApply cpus actor action
    → is_load_refused event ≡ false
no_load cpus actor (Did one answer) action own can = refl
no_load cpus actor (Refused (Eld f) refusal) action own can =
    let same : Eld f ≡ action = same_Some _ _ own in absurd (subst (CanApply cpus actor) (sym same) can)
no_load cpus actor (Refused one refusal) action own can = refl
no_load cpus actor event action own can = absurd (none-some _ own)

-- ---- an instruction but the ends of starts

module _ (s t : State) (cpus : ℕ) (action : Action) (e made : Entry) (own : action_of e.event ≡ Some action)
    (can : CanApply cpus e.actor action) (step : IsStep s e.actor action made t)
    (history : (k : Making) (past : List Entry) (records : List Made) → StandsWithAllRules k s past records
    → StandsWithAllRules k t (made ∷ past) records) where
  is : IsMadeOf e.actor action made
  is = step_made s t e.actor action made step

  pub asked_alike : same_end e.event made.event ≡ true → GoesOnWith s e [] t
  asked_alike same = taken s t action e made [] own is same (with_none s t made history)

  pub asked_step : same_end e.event made.event ≡ true → IsStep s e.actor action e t
  asked_step same = subst (λ x. IsStep s e.actor action x t) (alike action e made own is same) step

  pub asked_apart : (rule : Rule) → same_end e.event made.event ≡ false → Tells e made rule → Breaks s e rule
  asked_apart rule unlike tells =
      broken s t action e made [] rule own is (no_load cpus e.actor e.event action own can)
      (no_load cpus made.actor made.event action is.action_is (subst (λ a. CanApply cpus a action) (sym is.actor_is) can))
      unlike (with_none s t made history) tells
