-- The keeper of the version slots has room for the version array pages that the build still makes.
use Rattle.std.specs.Prelude.{◌≡◌, Bool, true, false, List, length}
use Rattle.sgx_rules.specs.declared.entries.Action.TheVariants.{EwbStart, Ewb, EldStart, Eld}
use Rattle.sgx_rules.specs.declared.entries.Entry.{Entry}
use Rattle.sgx_rules.specs.declared.entries.Event.{Event}
use Rattle.sgx_rules.specs.declared.entries.Event.TheVariants.{Did, Refused, Age}
use Rattle.sgx_rules.specs.Frames.{vas_made}
use Rattle.driver_slots.specs.inner.Keeper.{Keeper}
use Rattle.job_grammar.specs.Jobs.{JobView, va_pages}
use Rattle.driver_laws.specs.inner.Agrees.{has_pages}
use Rattle.driver_laws.specs.inner.Keeps.{ArraysAreBuilt}

pub record KeeperHasRoom (j : JobView) (keeper : Keeper) (past : List Entry) : Type 0 where
  -- as many version array pages were made as the builder's steps till now make, and the keeper has as many
  pub built : ArraysAreBuilt j past
  pub pages : length keeper.arrays ≡ vas_made past
  -- and there is room for as many as all its steps make
  pub room : keeper.room ≡ va_pages j

-- .. as long as no TCS or REG page was added: none is made behind the first
abbrev pub KeepsKeeper : JobView → Keeper → List Entry → Type 0
KeepsKeeper j keeper past = has_pages past ≡ false → KeeperHasRoom j keeper past

-- the keeper has as many version array pages, and room for as many
pub record HasAsMany (old new : Keeper) : Type 0 where
  pub pages : length new.arrays ≡ length old.arrays
  pub room : new.room ≡ old.room

-- an entry that moves a page which was made
abbrev pub is_move : Event → Bool
is_move (Age page look) = true
is_move (Did (EwbStart f slot) answer) = true
is_move (Did (Ewb f) answer) = true
is_move (Did (EldStart f page slot) answer) = true
is_move (Did (Eld f) answer) = true
is_move (Refused (Eld f) refusal) = true
is_move event = false
