-- An entry that is another than the machine's, of the same instruction at the same place, breaks the rule that `rule_of` names, and
-- none before it.
use Rattle.std.proofs.Common.{◌≡◌, ℕ, Bool, true, false, refl, sym, ap, subst, ◌∙◌, ◌⊎◌, inl, inr, List, Option, Some}
use Rattle.std.proofs.Common.{None, is_none}
use Rattle.std.proofs.lemmas.Option.{none-some, same_Some}
use Rattle.sgx_rules.specs.declared.entries.Entry.{Entry}
use Rattle.sgx_rules.specs.declared.entries.Event.{Event}
use Rattle.sgx_rules.specs.declared.entries.Event.TheVariants.{Did, Refused}
use Rattle.sgx_types.specs.declared.names.Actor.{Actor}
use Rattle.sgx_rules.specs.declared.entries.Action.{Action}
use Rattle.sgx_rules.specs.declared.entries.Action.TheVariants.{Epa, Init, Enter, Resume, Load, Xadd, Plus, Pf, OutLoad, EwbStart}
use Rattle.sgx_rules.specs.declared.entries.Action.TheVariants.{Ewb, EldStart}
use Rattle.sgx_rules.specs.declared.entries.Action.TheVariants.{Eld}
use Rattle.sgx_rules.specs.declared.entries.Answer.{Answer}
use Rattle.sgx_rules.specs.declared.entries.Answer.TheVariants as answers
use Rattle.sgx_rules.specs.declared.refusals.Refusal.{Refusal}
use Rattle.sgx_rules.specs.declared.refusals.Refusal.TheVariants as why
use Rattle.sgx_rules.specs.Flat.{enclave_sight, flat, is_visible}
use Rattle.sgx_rules.specs.Rules.{HasForm, RefusalRule, case_of, seen_answer}
use Rattle.sgx_rules.specs.Sights.{row_at, secs_sight_at}
use Rattle.sgx_types.specs.Cases.{first_of_row}
use Rattle.sgx_rules.proofs.Rows.{init_open}
use Rattle.sgx_types.proofs.Truths.{tested}
use Rattle.measure_log.specs.Rule.{IsExpected, IsOther, MeasureRule, measurement}
use Rattle.job_grammar.specs.Jobs.{JobView}
use Rattle.script_rules.specs.Machines.{machine_of}
use Rattle.script_rules.specs.Script.{action_of}
use Rattle.history_rules.specs.declared.rules.Rule.TheVariants as rules
use Rattle.history_rules.specs.inner.Histories.{is_machines}
use Rattle.history_machine.specs.Histories.{FailsAmong}
use Rattle.audit_machine.specs.inner.Forms.{has_form, is_hash}
use Rattle.audit_machine.specs.inner.Rivals.{AreRivals, KeepsMachines, is_load_refused, rule_of, rule_of_allowed, rule_of_answer}
use Rattle.audit_machine.specs.inner.Rivals.{rule_of_denied}
use Rattle.audit_machine.specs.inner.Rivals.{rule_of_done, rule_of_formed, rule_of_reasons}
use Rattle.audit_machine.proofs.EndLaws.{other_back, other_out}
use Rattle.audit_machine.proofs.FormLaws.{has_its_form, is_of_its_form}
use Rattle.audit_machine.proofs.OrderLaws.{flat_fails, fresh_fails, measure_fails, refusal_fails}

not-both : (expect : Option (List ℕ)) (digest : List ℕ) → IsExpected expect digest → IsOther expect digest → ⊥
not-both None digest is other = other
not-both (Some wanted) digest is other = other is

from-case : (enclave : ℕ) (expect : Option (List ℕ)) (found x : Refusal) → Some x ≡ case_of (Init enclave expect) found → x ≡ found
from-case enclave expect (why.BadMeasure made) x e = absurd (none-some _ (sym e))
from-case enclave expect found x e = same_Some _ _ e

module _ (j : JobView) (past : List Entry) (actor : Actor) where
  abbrev done : Action → Answer → Entry
  done action answer = record { actor = actor; event = Did action answer }

  abbrev refused : Action → Refusal → Entry
  refused action refusal = record { actor = actor; event = Refused action refusal }

  -- the first case of an instruction's row, by the entries
  abbrev first : Action → Option Refusal
  first action = first_of_row (row_at (machine_of j) past actor action)

  refused-first : (action : Action) (refusal : Refusal) → is_load_refused (Refused action refusal) ≡ false
      → RefusalRule (machine_of j) past (refused action refusal) → first action ≡ case_of action refusal
  refused-first (Ewb f) refusal ends h = absurd h
  refused-first (Eld f) refusal ends h = absurd cc
  refused-first action refusal ends h = h

  -- ---- an `init`

  init-refused : (enclave : ℕ) (expect : Option (List ℕ)) (made : List ℕ) (e : Entry)
      → KeepsMachines j past e
      → first (Init enclave expect) ≡ None → (MeasureRule past (refused (Init enclave expect) (why.BadMeasure made)) → ⊥)
      → FailsAmong is_machines j past (Some (refused (Init enclave expect) (why.BadMeasure made))) rules.Measure
  init-refused enclave expect made e keeps allows fails =
      measure_fails j past (refused (Init enclave expect) (why.BadMeasure made)) allows tt (tt, (keeps.each rules.Fits refl).1)
      (tt, (keeps.each rules.Stale refl).1) tt (record { rising = tt; reload = tt }) tt fails

  init-done : (enclave : ℕ) (expect : Option (List ℕ)) (digest : List ℕ) (e : Entry)
      → KeepsMachines j past e
      → first (Init enclave expect) ≡ None → (MeasureRule past (done (Init enclave expect) (answers.Hash digest)) → ⊥)
      → FailsAmong is_machines j past (Some (done (Init enclave expect) (answers.Hash digest))) rules.Measure
  init-done enclave expect digest e keeps allows fails =
      measure_fails j past (done (Init enclave expect) (answers.Hash digest)) (allows, (digest, refl))
      (λ seen. record {
        taken = ap is_none (init_open (enclave_sight (flat past) enclave) (secs_sight_at j.epc past enclave) allows);
        same = refl;
      }) ((tt, tt), (keeps.each rules.Fits refl).1)
      (tt, (keeps.each rules.Stale refl).1) tt (record { rising = tt; reload = tt }) tt fails

  -- ---- where the machine refuses

  done-refused : (action : Action) (answer : Answer) (found : Refusal) → is_load_refused (Refused action found) ≡ false
      → KeepsMachines j past (refused action found)
      → FailsAmong is_machines j past (Some (done action answer)) (rule_of_allowed action answer found)
  done-refused (Init enclave expect) (answers.Hash digest) (why.BadMeasure made) ends keeps =
      init-done enclave expect digest _ keeps (keeps.each rules.Refusal refl) (λ h.
      not-both expect (measurement past enclave) h.1 (keeps.each rules.Measure refl).1)
  done-refused (Init enclave expect) answer (why.BadMeasure made) ends keeps =
      refusal_fails j past _ (λ h. let form = h.1.1 in cc)
  done-refused action answer found ends keeps =
      refusal_fails j past _ (λ h. none-some _ (sym h.0 ∙ refused-first action found ends (keeps.each rules.Refusal refl)))

  refused-done : (action : Action) (refusal : Refusal) (right : Answer) → is_load_refused (Refused action refusal) ≡ false
      → KeepsMachines j past (done action right)
      → FailsAmong is_machines j past (Some (refused action refusal)) (rule_of_denied action refusal)
  refused-done (Init enclave expect) (why.BadMeasure made) right ends keeps =
      init-refused enclave expect made _ keeps (keeps.each rules.Refusal refl).0 (λ h.
      not-both expect (measurement past enclave) (keeps.each rules.Measure refl).1 h.1)
  refused-done action refusal right ends keeps =
      refusal_fails j past _ (λ h. none-some _ (sym (keeps.each rules.Refusal refl).0 ∙ refused-first action refusal ends h))

  -- ---- where both refuse

  init-both : (enclave : ℕ) (expect : Option (List ℕ)) (refusal found : Refusal)
      → KeepsMachines j past (refused (Init enclave expect) found) → (refusal ≡ found → ⊥)
      → FailsAmong is_machines j past (Some (refused (Init enclave expect) refusal)) (rule_of_reasons (Init enclave expect) refusal found)
  init-both enclave expect (why.BadMeasure given) (why.BadMeasure made) keeps other =
      init-refused enclave expect given _ keeps (keeps.each rules.Refusal refl) (λ h.
      other (ap why.BadMeasure (h.0 ∙ sym (keeps.each rules.Measure refl).0)))
  init-both enclave expect (why.BadMeasure given) found keeps other =
      refusal_fails j past _ (λ h. none-some _ (sym h ∙ keeps.each rules.Refusal refl))
  init-both enclave expect refusal found keeps other =
      refusal_fails j past _ (λ h. other (from-case enclave expect found refusal (sym h ∙ keeps.each rules.Refusal refl)))

  refused-refused : (action : Action) (refusal found : Refusal) → is_load_refused (Refused action refusal) ≡ false
      → is_load_refused (Refused action found) ≡ false → KeepsMachines j past (refused action found) → (refusal ≡ found → ⊥)
      → FailsAmong is_machines j past (Some (refused action refusal)) (rule_of_reasons action refusal found)
  refused-refused (Init enclave expect) refusal found ends ended keeps other =
      init-both enclave expect refusal found keeps other
  refused-refused action refusal found ends ended keeps other =
      refusal_fails j past _ (λ h. other (same_Some _ _ (sym (refused-first action refusal ends h)
      ∙ refused-first action found ended (keeps.each rules.Refusal refl))))

  -- ---- where both are done

  seen-self : (action : Action) (a : Answer) → is_hash a ≡ false → seen_answer action a ≡ a
  seen-self action (answers.Hash digest) h = absurd cc
  seen-self (Init enclave expect) a h = refl
  seen-self action a h = refl

  -- an instruction whose answer has a value: flat memory knows it
  valued : (action : Action) (answer right : Answer) → is_visible action ≡ true → is_hash answer ≡ false → is_hash right ≡ false
      → HasForm past action answer → KeepsMachines j past (done action right)
      → (answer ≡ right → ⊥)
      → FailsAmong is_machines j past (Some (done action answer)) rules.Flat
  valued action answer right visible a b form keeps other =
      flat_fails j past (done action answer) ((keeps.each rules.Refusal refl).0, form) (λ h.
      other (sym (seen-self action answer a) ∙ (h visible).same ∙ sym (keeps.each rules.Flat refl visible).same ∙ seen-self action right b))

  value-none : (a : Answer) → (v : ℕ) × (a ≡ answers.Value v) → is_hash a ≡ false
  value-none a x = rw x.1 refl

  formed-done : (action : Action) (answer right : Answer) → has_form action answer ≡ true → HasForm past action answer
      → KeepsMachines j past (done action right) → (answer ≡ right → ⊥)
      → FailsAmong is_machines j past (Some (done action answer)) (rule_of_formed action)
  formed-done (Init enclave expect) answer right formed form keeps other =
      subst Fails (sym form.1) (init-done enclave expect form.0 _ keeps (keeps.each rules.Refusal refl).0 (λ h.
      other (form.1 ∙ h.0 ∙ sym (keeps.each rules.Measure refl).0)))
    where
      Fails : Answer → Type 0
      Fails a = FailsAmong is_machines j past (Some (done (Init enclave expect) a)) rules.Measure
  formed-done (EwbStart f slot) answer right formed form keeps other =
      fresh_fails j past (done (EwbStart f slot) answer) ((keeps.each rules.Refusal refl).0, form) (λ seen. absurd cc)
      (keeps.each rules.Fits refl) (keeps.each rules.Stale refl) (keeps.each rules.Evict refl) (λ h.
      other (h.rising ∙ sym (keeps.each rules.Fresh refl).rising))
  formed-done (Enter enclave tcs tf sf) answer right formed form keeps other =
      valued _ answer right refl (rw form.1 refl) (rw (keeps.each rules.Refusal refl).1.1 refl) form keeps other
  formed-done (Resume enclave tcs tf sf) answer right formed form keeps other =
      valued _ answer right refl (rw form.1 refl) (rw (keeps.each rules.Refusal refl).1.1 refl) form keeps other
  formed-done (Load off) answer right formed form keeps other =
      valued _ answer right refl (rw form.1 refl) (rw (keeps.each rules.Refusal refl).1.1 refl) form keeps other
  formed-done (Xadd off value) answer right formed form keeps other =
      valued _ answer right refl (rw form.1 refl) (rw (keeps.each rules.Refusal refl).1.1 refl) form keeps other
  formed-done (Plus value) answer right formed form keeps other =
      valued _ answer right refl (rw form.1 refl) (rw (keeps.each rules.Refusal refl).1.1 refl) form keeps other
  formed-done (OutLoad enclave off) answer right formed form keeps other =
      valued _ answer right refl (rw form.1 refl) (rw (keeps.each rules.Refusal refl).1.1 refl) form keeps other
  formed-done (Pf op off) answer right formed form keeps other =
      valued _ answer right refl (rw form.1 refl) (rw (keeps.each rules.Refusal refl).1.1 refl) form keeps other
  formed-done (Epa f) answer right formed form keeps other = absurd cc
  formed-done (Ewb f) answer right formed form keeps other = absurd cc
  formed-done (EldStart f page slot) answer right formed form keeps other = absurd cc
  formed-done (Eld f) answer right formed form keeps other = absurd cc
  formed-done action answer right formed form keeps other = absurd (other (form ∙ sym (keeps.each rules.Refusal refl).1))

  abbrev is_commit : Action → Bool
  is_commit (Ewb f) = true
  is_commit (Eld f) = true
  is_commit _ = false

  row-done : (action : Action) (answer right : Answer) → is_commit action ≡ false → KeepsMachines j past (done action right)
      → (answer ≡ right → ⊥) → FailsAmong is_machines j past (Some (done action answer)) (rule_of_answer action answer)
  row-done action answer right row keeps other = by_test (tested (has_form action answer))
    where
      formless : (a : Action) → is_commit a ≡ false → has_form a answer ≡ false
          → KeepsMachines j past (done a right) → HasForm past a answer → ⊥
      formless (Epa f) none not_formed own form = other (form ∙ sym (own.each rules.Refusal refl).1)
      formless (Ewb f) none not_formed own form = absurd cc
      formless (EldStart f page slot) none not_formed own form = other (form ∙ sym (own.each rules.Refusal refl).1)
      formless (Eld f) none not_formed own form = absurd cc
      formless a none not_formed own form = let e = sym not_formed ∙ is_of_its_form past a answer refl form in
          absurd (let f : false ≡ true = e in cc)

      by_test : (has_form action answer ≡ true) ⊎ (has_form action answer ≡ false)
          → FailsAmong is_machines j past (Some (done action answer)) (rule_of_answer action answer)
      by_test (inl formed) = rw formed (formed-done action answer right formed (has_its_form past action answer formed) keeps other)
      by_test (inr not_formed) =
          rw not_formed (refusal_fails j past (done action answer) (λ h. formless action row not_formed keeps h.1))

  done-done : (action : Action) (answer right : Answer) → KeepsMachines j past (done action right)
      → (answer ≡ right → ⊥) → FailsAmong is_machines j past (Some (done action answer)) (rule_of_done action answer right)
  done-done (Ewb f) answer right keeps other = other_out j past actor f answer right keeps other
  done-done (Eld f) answer right keeps other = other_back j past actor f answer right keeps other
  done-done action answer right keeps other = row-done action answer right refl keeps other

-- ---- the whole

by-events : (j : JobView) (past : List Entry) (actor : Actor) (event made : Event) (action : Action) → action_of event ≡ Some action
    → action_of made ≡ Some action → is_load_refused event ≡ false → is_load_refused made ≡ false → (event ≡ made → ⊥)
    → KeepsMachines j past (record { actor = actor; event = made })
    → FailsAmong is_machines j past (Some (record { actor = actor; event = event })) (rule_of event made)
by-events j past actor (Did one answer) (Did two right) action own same ends ended other keeps =
    let act : two ≡ one = same_Some _ _ (same ∙ sym own) in
    done-done j past actor one answer right (subst (λ a. KeepsMachines j past (record { actor = actor; event = Did a right })) act keeps)
    (λ e. other (λ i. Did (sym act i) (e i)))
by-events j past actor (Did one answer) (Refused two found) action own same ends ended other keeps =
    let act : two ≡ one = same_Some _ _ (same ∙ sym own) in
    done-refused j past actor one answer found (subst (λ a. is_load_refused (Refused a found) ≡ false) act ended)
    (subst (λ a. KeepsMachines j past (record { actor = actor; event = Refused a found })) act keeps)
by-events j past actor (Refused one refusal) (Did two right) action own same ends ended other keeps =
    let act : two ≡ one = same_Some _ _ (same ∙ sym own) in
    refused-done j past actor one refusal right ends
    (subst (λ a. KeepsMachines j past (record { actor = actor; event = Did a right })) act keeps)
by-events j past actor (Refused one refusal) (Refused two found) action own same ends ended other keeps =
    let act : two ≡ one = same_Some _ _ (same ∙ sym own) in
    refused-refused j past actor one refusal found ends (subst (λ a. is_load_refused (Refused a found) ≡ false) act ended)
    (subst (λ a. KeepsMachines j past (record { actor = actor; event = Refused a found })) act keeps)
    (λ e. other (λ i. Refused (sym act i) (e i)))
by-events j past actor (Did one answer) made action own same ends ended other keeps = absurd (none-some _ same)
by-events j past actor (Refused one refusal) made action own same ends ended other keeps = absurd (none-some _ same)
by-events j past actor event made action own same ends ended other keeps = absurd (none-some _ own)

-- an entry breaks the rule that its event and the machine's name, and none before it
pub first_broken : (j : JobView) (past : List Entry) (e made : Entry) → AreRivals e made → KeepsMachines j past made
    → FailsAmong is_machines j past (Some e) (rule_of e.event made.event)
first_broken j past e made rivals keeps =
    by-events j past e.actor e.event made.event rivals.action rivals.own rivals.same rivals.ends rivals.ended rivals.differ
    (subst (λ a. KeepsMachines j past (record { actor = a; event = made.event })) (sym rivals.actor) keeps)
