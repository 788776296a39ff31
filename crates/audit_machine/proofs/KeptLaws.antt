-- A machine that stands in all for its entries makes the last of them keep each of the machine's rules.
use Rattle.std.specs.Prelude.{true}
use Rattle.std.proofs.Common.{◌≡◌, ◌∙◌, ℕ, ap, refl, subst, length, List, ◌∷◌, Some}
use Rattle.sgx_rules.specs.declared.entries.Action.{Action}
use Rattle.sgx_rules.specs.declared.entries.Action.TheVariants.{Epa, Ewb, Eld}
use Rattle.sgx_rules.specs.declared.entries.Entry.{Entry}
use Rattle.sgx_rules.specs.declared.entries.Event.{Event}
use Rattle.sgx_rules.specs.declared.entries.Event.TheVariants.{Did, Refused}
use Rattle.sgx_types.specs.declared.names.Actor.{Actor}
use Rattle.sgx_rules.specs.Rules.{NoPageTwice, NoneStale, RefusalRule}
use Rattle.sgx_rules.specs.Sights.{row_at}
use Rattle.sgx_types.specs.Cases.{first_of_row}
use Rattle.sgx_rules.specs.inner.Rules.{KeepsRules}
use Rattle.sgx_types.specs.Making.{Making}
use Rattle.seal_record.specs.Records.{Made}
use Rattle.job_grammar.specs.Jobs.{JobView}
use Rattle.machine_laws.specs.inner.Histories.{StandsWithAllRules}
use Rattle.machine_laws.specs.inner.State.{State}
use Rattle.machine_laws.proofs.TestLaws.{last_place}
use Rattle.history_rules.specs.declared.rules.Rule.{Rule}
use Rattle.history_rules.specs.declared.rules.Rule.TheVariants as rules
use Rattle.history_rules.specs.Histories.{RuleSays}
use Rattle.history_rules.specs.inner.Histories.{is_machines}
use Rattle.audit_machine.specs.inner.Rivals.{KeepsMachines}
use Rattle.audit_machine.specs.inner.Asked.{made_for}

-- its rules, of the machine that it was made as
pub own_rules : (k : Making) (s : State) (past : List Entry) (records : List Made) → StandsWithAllRules k s past records → KeepsRules k past
own_rules k s past records h = subst (λ m. KeepsRules m past) h.shaped.shape.making h.standing.rules

-- ---- no rule counts processors

row-any : (j : JobView) (m n : ℕ) (past : List Entry) (actor : Actor) (action : Action)
    → row_at (made_for j m) past actor action ≡ row_at (made_for j n) past actor action
row-any j m n past actor (Epa f) = refl
row-any j m n past actor action = refl

pub refusal_any : (j : JobView) (m n : ℕ) (past : List Entry) (actor : Actor) (event : Event)
    → RefusalRule (made_for j m) past (record { actor = actor; event = event })
    → RefusalRule (made_for j n) past (record { actor = actor; event = event })
refusal_any j m n past actor (Did action answer) h = (ap first_of_row (row-any j n m past actor action) ∙ h.0, h.1)
refusal_any j m n past actor (Refused (Ewb f) refusal) h = h
refusal_any j m n past actor (Refused (Eld f) refusal) h = h
refusal_any j m n past actor (Refused action refusal) h = ap first_of_row (row-any j n m past actor action) ∙ h
refusal_any j m n past actor event h = h

pub last_kept : (j : JobView) (cpus : ℕ) (t : State) (past : List Entry) (e : Entry) (records : List Made)
    → StandsWithAllRules (made_for j cpus) t (e ∷ past) records → KeepsMachines j past e
last_kept j cpus t past e records h = record { each = last }
  where
    keeps : KeepsRules (made_for j cpus) (e ∷ past)
    keeps = own_rules (made_for j cpus) t (e ∷ past) records h

    last : (r : Rule) → is_machines r ≡ true → RuleSays j r past (Some e)
    last rules.Refusal its = refusal_any j cpus (length j.scripts) past e.actor e.event keeps.refusal.0
    last rules.Flat its = keeps.flat.0
    last rules.Fits its = (keeps.fits.entries.0, last_place NoPageTwice past keeps.fits.pages.1)
    last rules.Stale its = (keeps.stale.entries.0, last_place NoneStale past keeps.stale.places.1)
    last rules.Evict its = h.shaped.evict.0
    last rules.Fresh its = h.fresh.0
    last rules.Sealed its = h.sealed.0
    last rules.Measure its = h.standing.measure.0
    last rules.Script its = absurd cc
    last rules.Age its = absurd cc
    last rules.Kick its = absurd cc
