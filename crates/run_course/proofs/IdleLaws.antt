-- What is due to a processor whose load has started: its end, or nothing in a run that was stopped.
use Rattle.std.proofs.Common.{◌≡◌, ℕ, Bool, true, false, List, is_some, refl}
use Rattle.std.proofs.lemmas.Bool.{false≢true}
use Rattle.sgx_rules.specs.declared.entries.Action.{Action}
use Rattle.sgx_rules.specs.declared.entries.Entry.{Entry}
use Rattle.sgx_types.specs.declared.names.Page.{Page}
use Rattle.job_grammar.specs.Jobs.{JobView}
use Rattle.driver_rules.specs.Dues.{Due, Ends, Makes, Stopped}
use Rattle.driver_rules.specs.Places.{Absent, Away, Here, Leaving, Loading, Place}
use Rattle.driver_rules.specs.Stops.{is_spent}
use Rattle.driver_rules.specs.Turns.{Fails, Last, Loads, Other, WasEnded, cpu_due, fetches, last_of}
use Rattle.driver_laws.specs.inner.Agrees.{loaded_by}

-- the end of a start, or nothing since the run was stopped
abbrev is_closing : Due → Bool
is_closing Stopped = true
is_closing (Ends action) = true
is_closing _ = false

open_closes : (j : JobView) (past : List Entry) (p : ℕ) → is_some (loaded_by (last_of past p)) ≡ true
    → is_closing (cpu_due j past p) ≡ true
open_closes j past p = by (is_spent past) refl (last_of past p) refl
  where
    by : (spent : Bool) → is_spent past ≡ spent → (x : Last) → last_of past p ≡ x → is_some (loaded_by x) ≡ true
        → is_closing (cpu_due j past p) ≡ true
    by true s x at pending = rw s refl
    by false s (Loads f g) at pending = rw (s, at) refl
    by false s (Fails g why) at pending = absurd (false≢true pending)
    by false s WasEnded at pending = absurd (false≢true pending)
    by false s Other at pending = absurd (false≢true pending)

fetch_opens : (frames : ℕ) (past : List Entry) (g : Page) (at : Place) → is_closing (fetches frames past g at) ≡ true → ⊥
fetch_opens frames past g (Away slot) h = false≢true h
fetch_opens frames past g Absent h = false≢true h
fetch_opens frames past g (Here f) h = false≢true h
fetch_opens frames past g (Leaving f) h = false≢true h
fetch_opens frames past g (Loading f slot) h = false≢true h

-- so no instruction is due to it
pub makes_none : (j : JobView) (past : List Entry) (p : ℕ) (action : Action) → cpu_due j past p ≡ Makes action
    → is_some (loaded_by (last_of past p)) ≡ true → ⊥
makes_none j past p action due pending = false≢true (rw due at (open_closes j past p pending))

-- .. and no record is to be asked for
pub fetches_none : (j : JobView) (past : List Entry) (p frames : ℕ) (g : Page) (at : Place) → cpu_due j past p ≡ fetches frames past g at
    → is_some (loaded_by (last_of past p)) ≡ true → ⊥
fetches_none j past p frames g at due pending = fetch_opens frames past g at (rw due at (open_closes j past p pending))
