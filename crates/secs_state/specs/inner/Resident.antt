-- What an enclave's state counts of the frames: how many hold or load its pages, and which holds its SECS.
use Rattle.std.specs.Prelude.{ℕ, ◌≡◌, List, Option, IfSome}
use Rattle.std.specs.Option.{option_map}
use Rattle.sgx_rules.specs.Frames.{Content, children, secs_frame}
use Rattle.secs_state.specs.inner.Secs.{SecsState}
use Rattle.secs_state.specs.inner.Table.{enclave_at}

-- of so many frames, by what they hold
pub record IsCountedIn (frames : ℕ) (held : ℕ → Content) (e : ℕ) (x : SecsState) : Type 0 where
  pub children : x.children ≡ children frames held e
  pub frame : option_map (λ f. f.0) x.frame ≡ secs_frame frames held e

-- .. each enclave of a table
abbrev pub AreCounted : ℕ → (ℕ → Content) → List (Option SecsState) → Type 0
AreCounted frames held table = (e : ℕ) → IfSome (enclave_at table e) (IsCountedIn frames held e)
