-- What the entry of each instruction brings, done or refused.
use Rattle.std.proofs.Common.{ℕ, ◌≡◌, ◌≤◌, refl, ap, arith, ◌⊎◌, inl, inr, Option, Some, None, List, true, MatchOption}
use Rattle.std.proofs.Common.{unwrap_or, is_some}
use Rattle.sgx_rules.specs.declared.entries.Entry.{Entry}
use Rattle.sgx_types.specs.declared.names.Actor.{Actor}
use Rattle.sgx_types.specs.declared.names.Actor.TheVariants as actors
use Rattle.sgx_rules.specs.declared.entries.Action.{Action}
use Rattle.sgx_rules.specs.declared.entries.Action.TheVariants.{Epa, Create, Add, Extend, Init, Enter, Resume, Exit, Aex, Fill}
use Rattle.sgx_rules.specs.declared.entries.Action.TheVariants.{Load, Store}
use Rattle.sgx_rules.specs.declared.entries.Action.TheVariants.{Xadd, Set, Plus, Pf, OutLoad, OutStore, Block, Track, EwbStart}
use Rattle.sgx_rules.specs.declared.entries.Action.TheVariants.{EldStart}
use Rattle.sgx_rules.specs.declared.entries.Answer.TheVariants as answers
use Rattle.sgx_rules.specs.declared.refusals.Refusal.{Refusal}
use Rattle.sgx_rules.specs.declared.refusals.Refusal.TheVariants as why
use Rattle.sgx_types.specs.Cases.{first_of_row}
use Rattle.sgx_rules.specs.Table.{EnclaveSight, init_row, perm_in, SecsSight}
use Rattle.sgx_rules.specs.Rules.{NoPageTwice}
use Rattle.machine_laws.specs.inner.State.{State, row_of, after_init}
use Rattle.machine_laws.specs.inner.Stands.{HasEnclaves, IsSound, Stands}
use Rattle.measure_log.specs.Rule.{log, measurement, IsExpected, IsOther}
use Rattle.machine_laws.specs.inner.Steps.{CanApply, IsStep, IsJudged, did_by, refused_by, IsDone}
use Rattle.machine_laws.proofs.MeasureLaws.{finished_as}
use Rattle.machine_laws.proofs.BuildLaws.{is_some-sight, add_brings, create_brings, epa_brings, init_brings}
use Rattle.machine_laws.proofs.ExtendLaws.{extend_brings}
use Rattle.machine_laws.proofs.ExitLaws.{aex_brings, exit_brings}
use Rattle.machine_laws.proofs.RegisterLaws.{outload_brings, outstore_brings, pf_brings, plus_brings, set_brings}
use Rattle.machine_laws.proofs.AccessLaws.{fill_brings, load_brings, store_brings, xadd_brings}
use Rattle.machine_laws.proofs.RowLaws.{measure_told, refusal_told, row_told, row_fits}
use Rattle.machine_laws.proofs.EntryLaws.{enter_brings, resume_brings}
use Rattle.machine_laws.proofs.NextEntry.{Brings, BringsDone, done_brings, refused_brings, brings_as}
use Rattle.machine_laws.proofs.MoveLaws.{block_brings, eldstart_brings, ewbstart_brings, track_brings}
use Rattle.machine_laws.specs.inner.Guarded.{IsGuarded}
use Rattle.sgx_rules.specs.declared.entries.Answer.{Answer}
use Rattle.sgx_types.specs.Pages.{no_perm}

-- the row of `init` finds a created enclave
init_made : (o : Option EnclaveSight) (secs : SecsSight) → first_of_row (init_row o secs) ≡ None → is_some o ≡ true
init_made None secs allowed = cc
init_made (Some x) secs allowed = refl

-- what each instruction brings that can be applied
module _ (s t : State) (past : List Entry) (cpus : ℕ) (few : cpus ≤ 16) (sound : IsSound s) (guarded : IsGuarded s)
    (made : HasEnclaves s) (stands : Stands s past) (once : NoPageTwice past) where
  -- where its row refuses it, or allows it
  by_row : (a : Actor) (action : Action) (e : Entry) → CanApply cpus a action → IsStep s a action e t
      → (first_of_row (row_of s a action) ≡ None → IsDone s a action e t → Brings s t past e) → Brings s t past e
  by_row a action e can k f = by_case (first_of_row (row_of s a action)) refl k
    where
      by_case : (o : Option Refusal) → first_of_row (row_of s a action) ≡ o
          → MatchOption o (IsDone s a action e t) (λ r. (e ≡ refused_by a action r) × (t ≡ s)) → Brings s t past e
      by_case None allowed done = f allowed done
      by_case (Some r) refused is = brings_as s t s past e _ is.0 is.1
          (refused_brings s past a action r (refusal_told s past cpus a action r can sound guarded stands refused)
          (measure_told s past a action r refused) stands)

  -- one that is done
  done_as : (a : Actor) (action : Action) (answer : Answer) (e : Entry) (t' : State) → CanApply cpus a action
      → first_of_row (row_of s a action) ≡ None → e ≡ did_by a action answer → t ≡ t' → BringsDone s t' past a action answer
      → Brings s t past e
  done_as a action answer e t' can allowed told same k =
      brings_as s t t' past e _ told same (done_brings s t' past a action answer
      (row_told s past cpus a action can sound guarded stands allowed)
      (row_fits s past cpus a action can stands.columns allowed) k)

  -- an `init` whose measurement is finished
  judged : (a : Actor) (enclave : ℕ) (expect : Option (List ℕ)) (e : Entry) → first_of_row (row_of s a (Init enclave expect)) ≡ None
      → IsJudged s a enclave expect e t → Brings s t past e
  judged a enclave expect e allowed done = by_judgement done.judged
    where
      is : done.digest ≡ measurement past enclave
      is = finished_as (s.enclaves enclave) (s.measure enclave) done.digest (log past enclave)
          (is_some-sight (s.enclaves enclave) (init_made _ _ allowed)) (stands.memory.measure enclave) done.finished

      by_judgement : (IsExpected expect done.digest × (e ≡ did_by a (Init enclave expect) (answers.Hash done.digest))
          × (t ≡ after_init s enclave))
          ⊎ (IsOther expect done.digest × (e ≡ refused_by a (Init enclave expect) (why.BadMeasure done.digest)) × (t ≡ s))
          → Brings s t past e
      by_judgement (inl now) =
          done_as a (Init enclave expect) (answers.Hash done.digest) e (after_init s enclave) tt allowed now.1 now.2
          (init_brings s past a enclave expect done.digest allowed (ap answers.Hash is, rw is at now.0) stands)
      by_judgement (inr other) =
          brings_as s t s past e _ other.1 other.2
          (refused_brings s past a (Init enclave expect) (why.BadMeasure done.digest)
          (row_told s past cpus a (Init enclave expect) tt sound guarded stands allowed) (is, rw is at other.0) stands)

  pub step_brings : (a : Actor) (action : Action) (e : Entry) → CanApply cpus a action → IsStep s a action e t → Brings s t past e
  step_brings a (Epa f) e can k =
      by_row a (Epa f) e can k (λ allowed done. done_as a (Epa f) _ e _ can allowed done.0 done.1 (epa_brings s past a f allowed stands))
  step_brings a (Create enclave f base size) e can k =
      by_row a (Create enclave f base size) e can k
      (λ allowed done. done_as a (Create enclave f base size) _ e _ can allowed done.0 done.1.state
      (create_brings s past a enclave f base size done.1.begun allowed done.1.log stands))
  step_brings a (Add enclave number f kind perm init) e can k =
      by_row a (Add enclave number f kind perm init) e can k
      (λ allowed done. done_as a (Add enclave number f kind perm init) _ e _ can allowed done.0 done.1.state
      (add_brings s past a enclave number f kind perm init done.1.longer allowed done.1.log stands))
  step_brings a (Extend f chunk) e can k =
      by_row a (Extend f chunk) e can k
      (λ allowed done. done_as a (Extend f chunk) _ e _ can allowed done.0 done.1.state
      (extend_brings s past a f chunk done.1.page done.1.longer allowed done.1.held done.1.log (guarded.kept.named f.0) made stands))
  step_brings a (Init enclave expect) e can k =
      by_row a (Init enclave expect) e can k (λ allowed done. judged a enclave expect e allowed done)
  step_brings a (Block f) e can k = by_row a (Block f) e can k
      (λ allowed done. done_as a (Block f) _ e _ can allowed done.0 done.1 (block_brings s past a f allowed stands))
  step_brings a (Track enclave) e can k = by_row a (Track enclave) e can k
      (λ allowed done. done_as a (Track enclave) _ e _ can allowed done.0 done.1 (track_brings s past a enclave stands))
  step_brings a (EwbStart f slot) e can k = by_row a (EwbStart f slot) e can k
      (λ allowed done. done_as a (EwbStart f slot) _ e _ can allowed done.0 done.1 (ewbstart_brings s past a f slot allowed stands))
  step_brings a (EldStart f page slot) e can k = by_row a (EldStart f page slot) e can k
      (λ allowed done. done_as a (EldStart f page slot) _ e _ can allowed done.0 done.1
      (eldstart_brings s past a f page slot allowed guarded stands))
  step_brings (actors.Cpu p) (Enter enclave tcs tf sf) e can k =
      by_row (actors.Cpu p) (Enter enclave tcs tf sf) e can k
      (λ allowed done. done_as (actors.Cpu p) (Enter enclave tcs tf sf) _ e _ can allowed done.0 done.1
      (enter_brings s past p enclave tcs tf sf (omega arith) allowed stands))
  step_brings (actors.Cpu p) (Resume enclave tcs tf sf) e can k =
      by_row (actors.Cpu p) (Resume enclave tcs tf sf) e can k
      (λ allowed done. done_as (actors.Cpu p) (Resume enclave tcs tf sf) _ e _ can allowed done.0 done.1
      (resume_brings s past p enclave tcs tf sf (omega arith) allowed stands once))
  step_brings (actors.Cpu p) Exit e can k = by_row (actors.Cpu p) Exit e can k
      (λ allowed done. done_as (actors.Cpu p) Exit _ e _ can allowed done.0 done.1 (exit_brings s past p (omega arith) allowed stands))
  step_brings (actors.Cpu p) (Aex cause) e can k =
      by_row (actors.Cpu p) (Aex cause) e can k (λ allowed done.
      done_as (actors.Cpu p) (Aex cause) _ e _ can allowed done.0 done.1
      (aex_brings s past p cause (omega arith) allowed sound stands once))
  step_brings (actors.Cpu p) (Fill number f) e can k =
      by_row (actors.Cpu p) (Fill number f) e can k
      (λ allowed done. done_as (actors.Cpu p) (Fill number f) _ e _ can allowed done.0 done.1
      (fill_brings s past p (record { number = number; frame = f; perm = unwrap_or (perm_in (s.content f.0)) no_perm }) allowed stands))
  step_brings (actors.Cpu p) (Load off) e can k =
      by_row (actors.Cpu p) (Load off) e can k (λ allowed done.
      done_as (actors.Cpu p) (Load off) _ e _ can allowed done.0 done.1 (load_brings s past p off (omega arith) allowed sound stands))
  step_brings (actors.Cpu p) (Store off value) e can k =
      by_row (actors.Cpu p) (Store off value) e can k
      (λ allowed done. done_as (actors.Cpu p) (Store off value) _ e _ can allowed done.0 done.1
      (store_brings s past p off value (omega arith) allowed sound stands once))
  step_brings (actors.Cpu p) (Xadd off value) e can k =
      by_row (actors.Cpu p) (Xadd off value) e can k
      (λ allowed done. done_as (actors.Cpu p) (Xadd off value) _ e _ can allowed done.0 done.1
      (xadd_brings s past p off value (omega arith) allowed sound stands once))
  step_brings (actors.Cpu p) (Set value) e can k =
      by_row (actors.Cpu p) (Set value) e can k (λ allowed done.
      done_as (actors.Cpu p) (Set value) _ e _ can allowed done.0 done.1 (set_brings s past p value (omega arith) allowed stands))
  step_brings (actors.Cpu p) (Plus value) e can k =
      by_row (actors.Cpu p) (Plus value) e can k (λ allowed done.
      done_as (actors.Cpu p) (Plus value) _ e _ can allowed done.0 done.1 (plus_brings s past p value (omega arith) allowed stands))
  step_brings (actors.Cpu p) (Pf op off) e can k =
      by_row (actors.Cpu p) (Pf op off) e can k (λ allowed done.
      done_as (actors.Cpu p) (Pf op off) _ e _ can allowed done.0 done.1 (pf_brings s past p op off (omega arith) allowed stands))
  step_brings (actors.Cpu p) (OutLoad enclave off) e can k =
      by_row (actors.Cpu p) (OutLoad enclave off) e can k
      (λ allowed done. done_as (actors.Cpu p) (OutLoad enclave off) _ e _ can allowed done.0 done.1
      (outload_brings s past p enclave off (omega arith) allowed stands))
  step_brings (actors.Cpu p) (OutStore enclave off value) e can k =
      by_row (actors.Cpu p) (OutStore enclave off value) e can k
      (λ allowed done. done_as (actors.Cpu p) (OutStore enclave off value) _ e _ can allowed done.0 done.1
      (outstore_brings s past p enclave off value (omega arith) allowed stands))
  step_brings a action e can k = absurd can
