-- Two entries of one instruction at one place, of which one keeps each rule of the machine: which rule the other one breaks first.
use Rattle.std.specs.Prelude.{◌≡◌, ◌==◌, Bool, true, false, if◌then◌else◌, List, Some}
use Rattle.sgx_rules.specs.declared.entries.Entry.{Entry}
use Rattle.sgx_rules.specs.declared.entries.Event.{Event}
use Rattle.sgx_rules.specs.declared.entries.Event.TheVariants.{Did, Refused}
use Rattle.sgx_rules.specs.declared.entries.Action.{Action}
use Rattle.sgx_rules.specs.declared.entries.Action.TheVariants.{Init, EwbStart, Ewb, Eld}
use Rattle.sgx_rules.specs.declared.entries.Answer.{Answer}
use Rattle.sgx_rules.specs.declared.entries.Answer.TheVariants as answers
use Rattle.sgx_rules.specs.declared.refusals.Refusal.{Refusal}
use Rattle.sgx_rules.specs.declared.refusals.Refusal.TheVariants as why
use Rattle.sgx_types.specs.Pages.{same_page}
use Rattle.job_grammar.specs.Jobs.{JobView}
use Rattle.script_rules.specs.Script.{action_of}
use Rattle.history_rules.specs.declared.rules.Rule.{Rule}
use Rattle.history_rules.specs.declared.rules.Rule.TheVariants as rules
use Rattle.history_rules.specs.Histories.{RuleSays}
use Rattle.history_rules.specs.inner.Histories.{is_machines}
use Rattle.audit_machine.specs.inner.Forms.{has_form}

-- ---- what is asked of the two

-- the end of a load was refused: what that tells is of a record, which no machine knows
abbrev pub is_load_refused : Event → Bool
is_load_refused (Refused (Eld f) refusal) = true
is_load_refused _ = false

pub record AreRivals (e made : Entry) : Type 0 where
  pub actor : e.actor ≡ made.actor
  pub action : Action
  pub own : action_of e.event ≡ Some action
  pub same : action_of made.event ≡ Some action
  pub ends : is_load_refused e.event ≡ false
  pub ended : is_load_refused made.event ≡ false
  -- they end differently
  pub differ : e.event ≡ made.event → ⊥

-- an entry keeps each rule of the machine
pub record KeepsMachines (j : JobView) (past : List Entry) (e : Entry) : Type 0 where
  pub each : (r : Rule) → is_machines r ≡ true → RuleSays j r past (Some e)

-- ---- the rule

-- where both are done. The end of a write-out names its page by Refusal, its version by Evict and its tag by Sealed; that of a load its
-- page by Refusal, and version and tag by Fresh
abbrev pub rule_out : Answer → Answer → Rule
rule_out (answers.Moved page version tag) (answers.Moved g v t) =
    if same_page page g then (if version == v then rules.Sealed else rules.Evict) else rules.Refusal
rule_out _ _ = rules.Refusal

abbrev pub rule_back : Answer → Answer → Rule
rule_back (answers.Moved page version tag) (answers.Moved g v t) = if same_page page g then rules.Fresh else rules.Refusal
rule_back _ _ = rules.Refusal

abbrev pub rule_of_formed : Action → Rule
rule_of_formed (Init enclave expect) = rules.Measure
rule_of_formed (EwbStart f slot) = rules.Fresh
rule_of_formed _ = rules.Flat

-- an answer of its row's form, or of another one
abbrev pub rule_of_answer : Action → Answer → Rule
rule_of_answer action answer = if has_form action answer then rule_of_formed action else rules.Refusal

abbrev pub rule_of_done : Action → Answer → Answer → Rule
rule_of_done (Ewb f) answer right = rule_out answer right
rule_of_done (Eld f) answer right = rule_back answer right
rule_of_done action answer right = rule_of_answer action answer

-- where one of them is refused: only of an `init` may the measurement decide
abbrev pub rule_of_allowed : Action → Answer → Refusal → Rule
rule_of_allowed (Init enclave expect) (answers.Hash digest) (why.BadMeasure made) = rules.Measure
rule_of_allowed _ _ _ = rules.Refusal

abbrev pub rule_of_denied : Action → Refusal → Rule
rule_of_denied (Init enclave expect) (why.BadMeasure made) = rules.Measure
rule_of_denied _ _ = rules.Refusal

abbrev pub rule_of_reasons : Action → Refusal → Refusal → Rule
rule_of_reasons (Init enclave expect) (why.BadMeasure given) (why.BadMeasure made) = rules.Measure
rule_of_reasons _ _ _ = rules.Refusal

abbrev pub rule_of : Event → Event → Rule
rule_of (Did action answer) (Did same right) = rule_of_done action answer right
rule_of (Did action answer) (Refused same found) = rule_of_allowed action answer found
rule_of (Refused action refusal) (Did same right) = rule_of_denied action refusal
rule_of (Refused action refusal) (Refused same found) = rule_of_reasons action refusal found
rule_of _ _ = rules.Refusal
