-- From which slots on the keepers of a driver and of an auditor have those of version array pages.
use Rattle.std.proofs.Common.{◌≡◌, ℕ, ◌==◌, Bool, true, false, if◌then◌else◌, List, refl, sym, ap, arith}
use Rattle.sgx_rules.specs.declared.entries.Entry.{Entry}
use Rattle.job_grammar.specs.Jobs.{JobView}
use Rattle.driver_rules.specs.inner.Slotted.{fixed_count}
use Rattle.driver_laws.specs.inner.Agrees.{Keeping, auditors, drivers}
use Rattle.driver_tables.specs.declared.driver.Driver.{Driver}
use Rattle.driver_tables.specs.inner.Tables.{ShowsTables}
use Rattle.driver_tables.specs.inner.Targets.{first_in}
use Rattle.due_notes.specs.inner.Noted.{KeepsFrom}

pub drivers_keep : (k : Keeping) (j : JobView) (d : Driver) (past : List Entry) → ShowsTables k j d past
    → KeepsFrom (drivers j) (first_in d 0)
drivers_keep k j d past t = record {
  firsts = λ va. ap (λ n. if va == 0 then n else 0) (sym same);
  within = let one = t.few_enclaves in let two = t.few_arrays in omega (arith, one, two);
}
  where
    same : first_in d 0 ≡ fixed_count j
    same = let one = t.enclaves in let two = t.arrays in omega (arith, one, two)

pub auditors_keep : KeepsFrom auditors 0
auditors_keep = record { firsts = λ va. none (va == 0); within = omega arith }
  where
    none : (b : Bool) → ◌≡◌ {A = ℕ} 0 (if b then 0 else 0)
    none true = refl
    none false = refl
