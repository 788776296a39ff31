-- What a fresh machine comes to, step by step, through states that are sound and guarded, whatever records are brought: its entries,
-- the records that its write-outs gave out, and those that the commits of its loads looked at.
use Rattle.std.specs.Prelude.{ℕ, ◌≡◌, ◌≤◌, true, List, [], ◌∷◌, ◌++◌}
use Rattle.sgx_rules.specs.declared.entries.Entry.{Entry}
use Rattle.sgx_types.specs.declared.names.Actor.{Actor}
use Rattle.sgx_rules.specs.declared.entries.Action.{Action}
use Rattle.sgx_types.specs.declared.names.Frame.{Frame}
use Rattle.sgx_rules.specs.Table.{is_loading}
use Rattle.sgx_types.specs.Sealed.{Sealed}
use Rattle.seal_record.specs.Records.{Given, Made}
use Rattle.machine_laws.specs.inner.Guarded.{IsGuarded}
use Rattle.machine_laws.specs.inner.Histories.{given_out, looked_at}
use Rattle.machine_laws.specs.inner.Notes.{IsNote}
use Rattle.machine_laws.specs.inner.Stands.{HasEnclaves, IsSound}
use Rattle.machine_laws.specs.inner.State.{State, fresh}
use Rattle.machine_laws.specs.inner.Steps.{CanApply, CanEnd, IsStep, IsWrittenOut, IsReloaded}

-- what the machine's type keeps of each state
pub record IsSafe (s : State) : Type 0 where
  pub sound : IsSound s
  pub guarded : IsGuarded s
  pub owned : HasEnclaves s

-- a state that a fresh machine comes to, with its entries, newest first, and its records, oldest first
pub data Run : State → List Entry → List Made → List Given → Type 0 where
  nothing : (frames cpus : ℕ) (key : List ℕ) (first_epoch first_version : ℕ)
      → Run (fresh frames cpus key first_epoch first_version) [] [] []
  step : (s t : State) (past : List Entry) (made : List Made) (given : List Given) (actor : Actor) (action : Action) (e : Entry)
      → Run s past made given → IsSafe s → IsSafe t → s.cpus ≤ 16 → CanApply s.cpus actor action → IsStep s actor action e t
      → Run t (e ∷ past) made given
  written : (s t : State) (past : List Entry) (made : List Made) (given : List Given) (actor : Actor) (f : Frame) (rec : Sealed) (e : Entry)
      → Run s past made given → IsSafe s → IsSafe t → s.is_sealing f.0 ≡ true → IsWrittenOut s actor f e rec t
      → Run t (e ∷ past) (made ++ given_out e.event rec) given
  reloaded : (s t : State) (past : List Entry) (made : List Made) (given : List Given) (actor : Actor) (f : Frame) (rec : Sealed)
      (e : Entry)
      → Run s past made given → IsSafe s → IsSafe t → is_loading (s.content f.0) ≡ true → CanEnd s f.0 rec → IsReloaded s actor f rec e t
      → Run t (e ∷ past) made (given ++ looked_at s f.0 made rec)
  noted : (s : State) (past : List Entry) (made : List Made) (given : List Given) (e : Entry) → Run s past made given → IsSafe s
      → IsNote e.event → Run s (e ∷ past) made given
