-- The calls that were made of a store, the newest first, where it tells them.
use Rattle.std.specs.Prelude.{Bool}
use Rattle.sgx_types.specs.declared.names.Page.{Page}
use Rattle.sgx_types.specs.Sealed.{Sealed}

-- what a get gave
pub data Gift : Type 0 where
  Failed : Gift
  Nothing : Gift
  Given : (rec : Sealed) → Gift

-- place that was asked for, a record of a page that was put, or one that was asked for
pub data Call : Type 0 where
  Room : (page : Page) → (failed : Bool) → Call
  Put : (page : Page) → (rec : Sealed) → (failed : Bool) → Call
  Got : (page : Page) → (gift : Gift) → Call
