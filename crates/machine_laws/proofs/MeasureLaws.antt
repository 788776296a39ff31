-- What the rows that measure do to the running measurements, and what these finish to.
use Rattle.std.proofs.Common.{◌≡◌, ℕ, ◌==◌, ◌++◌, Bool, true, false, cond, refl, Option, Some, None, List, [], is_some}
use Rattle.std.specs.Option.{IsSomeAnd}
use Rattle.std.proofs.lemmas.Bool.{eqb-true}
use Rattle.sgx_rules.specs.declared.entries.Entry.{Entry}
use Rattle.sgx_types.specs.declared.names.Actor.{Actor}
use Rattle.sgx_rules.specs.declared.entries.Action.TheVariants.{Init}
use Rattle.sgx_rules.specs.declared.refusals.Refusal.{Refusal}
use Rattle.sgx_rules.specs.declared.refusals.Refusal.TheVariants as why
use Rattle.sgx_types.specs.Cases.{first_of_row}
use Rattle.sgx_rules.specs.Table.{EnclaveSight, SecsSight, init_row}
use Rattle.sgx_rules.specs.Flat.{FlatEnclave, as_initialised}
use Rattle.sgx_types.proofs.Truths.{eqb-swap}
use Rattle.measure_log.specs.declared.measure.Measure.{Measure}
use Rattle.measure_log.specs.Measure.{measurement_of}
use Rattle.measure_log.specs.inner.Measure.{HoldsLog, TakesIn, FinishesTo}
use Rattle.measure_log.specs.Rule.{MeasureRule}
use Rattle.machine_laws.specs.inner.Stands.{IsMeasuring}
use Rattle.machine_laws.specs.inner.Steps.{refused_by}

-- a new enclave's measurement begins
pub begins : (e enclave : ℕ) (o : Option FlatEnclave) (x : FlatEnclave) (m : Option Measure) (begun : Measure) (block l : List ℕ)
    → ((e ≡ enclave) → l ≡ []) → HoldsLog begun block → IsMeasuring o m l
    → IsMeasuring (cond (e == enclave) (Some x) o) (cond (e == enclave) (Some begun) m) (cond (enclave == e) (l ++ block) l)
begins e enclave o x m begun block l new holds before = rw (eqb-swap enclave e) (by_test (e == enclave) refl)
  where
    by_test : (b : Bool) → (e == enclave) ≡ b → IsMeasuring (cond b (Some x) o) (cond b (Some begun) m) (cond b (l ++ block) l)
    by_test true same = rw (new (eqb-true e enclave same)) holds
    by_test false other = before

-- an enclave's measurement takes in a block
taken_in : (o : Option FlatEnclave) (m : Option Measure) (longer : Measure) (block l : List ℕ) → is_some o ≡ true
    → IsSomeAnd m (λ x. TakesIn x block longer) → IsMeasuring o m l → IsMeasuring o (Some longer) (l ++ block)
taken_in None m longer block l made takes before = cc
taken_in (Some x) None longer block l made takes before = absurd before
taken_in (Some x) (Some y) longer block l made takes before = takes l before

pub goes_on : (e enclave : ℕ) (o : ℕ → Option FlatEnclave) (m : ℕ → Option Measure) (longer : Measure) (block l : List ℕ)
    → is_some (o enclave) ≡ true → IsSomeAnd (m enclave) (λ x. TakesIn x block longer) → IsMeasuring (o e) (m e) l
    → IsMeasuring (o e) (cond (e == enclave) (Some longer) (m e)) (cond (enclave == e) (l ++ block) l)
goes_on e enclave o m longer block l made takes before = rw (eqb-swap enclave e) (by_test (e == enclave) refl)
  where
    by_test : (b : Bool) → (e == enclave) ≡ b → IsMeasuring (o e) (cond b (Some longer) (m e)) (cond b (l ++ block) l)
    by_test true same = let is = eqb-true e enclave same in taken_in (o e) (m e) longer block l (rw is made) (rw is takes) before
    by_test false other = before

-- an enclave that is marked initialised has its measurement still
pub stays : (b : Bool) (o : Option FlatEnclave) (m : Option Measure) (l : List ℕ) → IsMeasuring o m l
    → IsMeasuring (cond b (as_initialised o) o) m l
stays false o m l h = h
stays true None m l h = h
stays true (Some x) m l h = h

-- a measurement finishes to that of its log
pub finished_as : (o : Option FlatEnclave) (m : Option Measure) (digest l : List ℕ) → is_some o ≡ true → IsMeasuring o m l
    → IsSomeAnd m (λ x. FinishesTo x digest) → digest ≡ measurement_of l
finished_as None m digest l made h finished = cc
finished_as (Some x) None digest l made h finished = absurd h
finished_as (Some x) (Some y) digest l made h finished = finished l h

-- an `init` that its row refuses says nothing of the measurement
pub quiet : (o : Option EnclaveSight) (secs : SecsSight) (past : List Entry) (a : Actor) (enclave : ℕ) (expect : Option (List ℕ))
    (r : Refusal)
    → first_of_row (init_row o secs) ≡ Some r → MeasureRule past (refused_by a (Init enclave expect) r)
quiet None secs past a enclave expect r is = let e : why.Absent ≡ r = cc in rw (← e) tt
quiet (Some x) secs past a enclave expect r is = by_tests secs.is_away secs.is_sealing x.is_init is
  where
    by_tests : (b c d : Bool) → cond b (Some why.Absent) (cond c (Some why.Conflict) (cond d (Some why.IsInit) None)) ≡ Some r
        → MeasureRule past (refused_by a (Init enclave expect) r)
    by_tests true c d k = let e : why.Absent ≡ r = cc in rw (← e) tt
    by_tests false true d k = let e : why.Conflict ≡ r = cc in rw (← e) tt
    by_tests false false true k = let e : why.IsInit ≡ r = cc in rw (← e) tt
    by_tests false false false k = cc
