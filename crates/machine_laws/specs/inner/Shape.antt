-- The machine has the shape that some entries give it: all of its state that no page's bytes decide.
use Rattle.std.specs.Prelude.{ℕ, ◌≡◌, not, true, List, nat_lt}
use Rattle.sgx_rules.specs.declared.entries.Entry.{Entry}
use Rattle.sgx_types.specs.declared.names.Page.{Page}
use Rattle.sgx_rules.specs.inner.Enclaves.{IsTaken}
use Rattle.sgx_rules.specs.Epochs.{older_at}
use Rattle.sgx_rules.specs.inner.Epochs.{newer_at}
use Rattle.sgx_rules.specs.Rules.{Along, EvictRule, Fits, FitsRule, RisingRule, Stale}
use Rattle.sgx_rules.specs.inner.Arrays.{ArraysRest}
use Rattle.sgx_rules.specs.inner.Starts.{LoadsAreApart}
use Rattle.sgx_types.specs.Making.{Making}
use Rattle.machine_laws.specs.inner.Columns.{HasBusy, HasColumns}
use Rattle.machine_laws.specs.inner.State.{State, making_of, number_noting}

-- a TCS page is busy exactly where a processor is inside by it
pub record IsBusyBy (s : State) (past : List Entry) (g : Page) : Type 0 where
  pub taken : s.is_busy g ≡ true → IsTaken past g
  pub busy : IsTaken past g → s.is_busy g ≡ true

pub record IsShaped (made : Making) (s : State) (past : List Entry) : Type 0 where
  pub making : making_of s ≡ made
  pub columns : HasColumns s past
  -- how many processors are inside an enclave since before its last track, and how many others
  pub older : (e : ℕ) → number_noting s e (λ m. nat_lt m (s.epoch e)) ≡ older_at past e
  pub newer : (e : ℕ) → number_noting s e (λ m. not (nat_lt m (s.epoch e))) ≡ newer_at past e
  pub busy : (g : Page) → IsBusyBy s past g
  pub slots_busy : HasBusy s past

-- a machine of the shape of its entries, by which frames are the EPC's and taken where they are free, no translation is stale, only
-- drained pages go out, and versions rise
pub record ShapeWithRules (made : Making) (s : State) (past : List Entry) : Type 0 where
  pub shape : IsShaped made s past
  pub frames : Along (FitsRule made.frames) past
  pub stale : Stale past
  pub evict : Along EvictRule past
  pub rising : Along (RisingRule made.first_version) past
  pub rest : ArraysRest past

-- no page stands in two frames, and none is loaded that stands in one
pub record FitsApart (frames : ℕ) (past : List Entry) : Type 0 where
  pub fits : Fits frames past
  pub apart : LoadsAreApart past
