-- No instruction and no commit changes what the machine was made with.
use Rattle.std.proofs.Common.{◌≡◌, ℕ, refl, ap, ◌∙◌, ◌⊎◌, inl, inr, Option, Some, None, MatchOption}
use Rattle.sgx_rules.specs.declared.entries.Entry.{Entry}
use Rattle.sgx_types.specs.declared.names.Actor.{Actor}
use Rattle.sgx_types.specs.declared.names.Actor.TheVariants as actors
use Rattle.sgx_rules.specs.declared.entries.Action.{Action}
use Rattle.sgx_rules.specs.declared.entries.Action.TheVariants.{Epa, Create, Add, Extend, Init, Enter, Resume, Exit, Aex, Fill}
use Rattle.sgx_rules.specs.declared.entries.Action.TheVariants.{Store, Xadd}
use Rattle.sgx_rules.specs.declared.entries.Action.TheVariants.{Set, Plus, Block, Track, EwbStart, EldStart, Eld}
use Rattle.sgx_rules.specs.declared.entries.Answer.TheVariants as answers
use Rattle.sgx_types.specs.declared.names.Frame.{Frame}
use Rattle.sgx_rules.specs.declared.refusals.Refusal.{Refusal}
use Rattle.sgx_rules.specs.declared.refusals.Refusal.TheVariants as why
use Rattle.sgx_rules.specs.Processors.{Seat}
use Rattle.sgx_types.specs.Sealed.{Sealed}
use Rattle.sgx_rules.specs.Frames.{reloaded}
use Rattle.sgx_types.specs.Cases.{first_of_row}
use Rattle.measure_log.specs.Rule.{IsExpected, IsOther}
use Rattle.seal_record.specs.Cipher.{cipher}
use Rattle.machine_laws.specs.inner.State.{State, after_eld, after_failed_eld, after_init, making_of, row_of, with_saved}
use Rattle.machine_laws.specs.inner.Steps.{IsDone, IsReloaded, IsStep, IsWrittenOut, after_of, commit_row, did_by, refused_by}

saved_making : (s : State) (acc : ℕ) (o : Option Seat) → making_of (with_saved s acc o) ≡ making_of s
saved_making s acc None = refl
saved_making s acc (Some seat) = refl

after_making : (s : State) (a : Actor) (action : Action) → making_of (after_of s a action) ≡ making_of s
after_making s a (Epa f) = refl
after_making s a (Block f) = refl
after_making s a (Track enclave) = refl
after_making s a (EwbStart f slot) = refl
after_making s a (EldStart f page slot) = refl
after_making s (actors.Cpu p) (Enter enclave tcs tf sf) = refl
after_making s (actors.Cpu p) (Resume enclave tcs tf sf) = refl
after_making s (actors.Cpu p) Exit = refl
after_making s (actors.Cpu p) (Aex cause) = saved_making s (s.acc p.0) (s.inside p.0)
after_making s (actors.Cpu p) (Fill number f) = refl
after_making s (actors.Cpu p) (Store off value) = refl
after_making s (actors.Cpu p) (Xadd off value) = refl
after_making s (actors.Cpu p) (Set value) = refl
after_making s (actors.Cpu p) (Plus value) = refl
after_making s a action = refl

done_making : (s t : State) (a : Actor) (action : Action) (e : Entry) → IsDone s a action e t → making_of t ≡ making_of s
done_making s t a (Create enclave f base size) e done = ap making_of done.1.state
done_making s t a (Add enclave number f kind perm init) e done = ap making_of done.1.state
done_making s t a (Extend f chunk) e done = ap making_of done.1.state
done_making s t a (Init enclave expect) e done = by_judgement done.judged
  where
    by_judgement : (IsExpected expect done.digest × (e ≡ did_by a (Init enclave expect) (answers.Hash done.digest))
        × (t ≡ after_init s enclave))
        ⊎ (IsOther expect done.digest × (e ≡ refused_by a (Init enclave expect) (why.BadMeasure done.digest)) × (t ≡ s))
        → making_of t ≡ making_of s
    by_judgement (inl now) = ap making_of now.2
    by_judgement (inr other) = ap making_of other.2
done_making s t a action e done = ap making_of done.1 ∙ after_making s a action

-- an instruction
pub step_making : (s t : State) (a : Actor) (action : Action) (e : Entry) → IsStep s a action e t → making_of t ≡ making_of s
step_making s t a action e k = by_row (first_of_row (row_of s a action)) k
  where
    by_row : (o : Option Refusal) → MatchOption o (IsDone s a action e t) (λ r. (e ≡ refused_by a action r) × (t ≡ s))
        → making_of t ≡ making_of s
    by_row None done = done_making s t a action e done
    by_row (Some r) refused = ap making_of refused.1

-- the commit of a write-out
pub written_making : (s t : State) (a : Actor) (f : Frame) (e : Entry) (rec : Sealed) → IsWrittenOut s a f e rec t
    → making_of t ≡ making_of s
written_making s t a f e rec out = ap making_of out.state

-- the commit of a load
pub reloaded_making : (s t : State) (a : Actor) (f : Frame) (e : Entry) (rec : Sealed) → IsReloaded s a f rec e t
    → making_of t ≡ making_of s
reloaded_making s t a f e rec back = by_row (first_of_row (commit_row s f.0 back.coming rec)) back.row
  where
    by_row : (o : Option Refusal)
        → MatchOption o
        ((e ≡ did_by a (Eld f) (answers.Moved back.coming.page back.coming.start.version rec.tag))
        × (t ≡ after_eld s f.0 back.coming.start (reloaded back.coming.page (s.added back.coming.page))
        (cipher s.key back.coming.start.version rec.cipher)))
        (λ r. (e ≡ refused_by a (Eld f) r) × (t ≡ after_failed_eld s f.0 back.coming.start))
        → making_of t ≡ making_of s
    by_row None done = ap making_of done.1
    by_row (Some r) refused = ap making_of refused.1
