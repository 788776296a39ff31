-- Which rule an entry breaks first whose instruction is a processor's, where its actor is none.
use Rattle.std.specs.Prelude.{if◌then◌else◌, Option, None, Some}
use Rattle.sgx_rules.specs.declared.entries.Event.{Event}
use Rattle.sgx_rules.specs.declared.entries.Event.TheVariants.{Did, Refused}
use Rattle.sgx_rules.specs.declared.refusals.Refusal.{Refusal}
use Rattle.history_rules.specs.declared.rules.Rule.{Rule}
use Rattle.history_rules.specs.declared.rules.Rule.TheVariants as rules
use Rattle.audit_machine.specs.inner.Forms.{has_form}
use Rattle.audit_machine.specs.inner.Same.{same_refusal}

-- where no case of its row holds
abbrev pub rule_of_done : Event → Rule
rule_of_done (Did action answer) = if has_form action answer then rules.Flat else rules.Refusal
rule_of_done _ = rules.Refusal

-- where this is the first that holds. None where it was refused for that
abbrev pub rule_of_refused : Refusal → Event → Option Rule
rule_of_refused found (Refused action why) = if same_refusal why found then None else Some rules.Refusal
rule_of_refused found _ = Some rules.Refusal
