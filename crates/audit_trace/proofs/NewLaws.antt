-- What an auditor keeps before the first entry.
use Rattle.std.proofs.Common.{◌≡◌, sym, subst, ◌∙◌, []}
use Rattle.std.proofs.lemmas.Bool.{false≢true}
use Rattle.sgx_types.specs.Making.{Making}
use Rattle.job_grammar.specs.Jobs.{JobView, va_pages}
use Rattle.machine_laws.specs.inner.Histories.{StandsWithAllRules}
use Rattle.sgx_machine.specs.inner.Parts.{state_of}
use Rattle.driver_tables.specs.inner.Tables.{IsNew}
use Rattle.history_rules.specs.inner.Histories.{GoesOn}
use Rattle.due_tables.specs.inner.Holding.{KeepsHolds}
use Rattle.due_tables.specs.inner.Shown.{ShowsTurns}
use Rattle.run_laws.proofs.FreshLaws.{IsFresh, fresh_cpus, fresh_making}
use Rattle.run_laws.proofs.TcsLaws.{tcs_apart}
use Rattle.driver_pass.specs.inner.Standing.{StandsAt}
use Rattle.audit_machine.proofs.StayLaws.{none_out}
use Rattle.audit_machine.specs.inner.Kept.{KeepsRecords, no_records, records_of}
use Rattle.audit_trace.specs.declared.auditing.Auditing.{Auditing}
use Rattle.audit_trace.specs.inner.Audits.{KeepsAudit}
use Rattle.driver_tables.proofs.FirstLaws.{shows_first}
use Rattle.driver_laws.specs.inner.Agrees.{auditors}
use Rattle.due_tables.proofs.FirstLaws.{holds_first}
use Rattle.due_tables.proofs.OrderLaws.{orderly_first}
use Rattle.due_tables.proofs.EndLaws.{ends_first}
use Rattle.due_notes.proofs.ArrayLaws.{arrays_begin}

-- no entry breaks a rule
goes-on-first : (j : JobView) → GoesOn j []
goes-on-first j = record {
  script = tt;
  refusal = (tt, tt);
  flat = (tt, tt);
  fits = ((tt, λ m n g one other. absurd (false≢true one)), tt);
  stale = ((tt, λ p. tt), tt);
  evict = (tt, tt);
  fresh = (tt, tt);
  sealed = (tt, tt);
  measure = (tt, tt);
  age = (tt, tt);
  kick = (tt, tt);
}

-- machine, driver, tables and pass are new
pub keeps_first : (j : JobView) (a : Auditing) → IsFresh j a.machine → IsNew j a.driver → ShowsTurns j [] a.turns
    → StandsAt j.start_epoch j [] a.pass → records_of a.records ≡ no_records → KeepsAudit j [] a
keeps_first j a fresh new turns pass empty = record {
  trace = record {
    tcs = tcs_apart j turns.valid;
    goes_on = goes-on-first j;
    stands = subst (λ (k : Making). StandsWithAllRules k (state_of a.machine) [] []) (fresh_making j a.machine fresh) fresh.history;
    cpus = fresh_cpus j a.machine fresh ∙ sym new.cpus;
    shows = shows_first auditors j a.driver turns.valid new;
    holds = subst (λ x. KeepsHolds j x.own []) (sym new.active) (holds_first j);
    turns = turns;
    orderly = orderly_first j;
    ends = ends_first;
  };
  arrays = arrays_begin j a.driver new;
  pass = pass;
  records = subst (KeepsRecords j.key []) (sym empty) (none_out j.key);
}
