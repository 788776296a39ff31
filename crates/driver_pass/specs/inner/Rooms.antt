-- How a pass is kept.
use Rattle.std.specs.Prelude.{◌≤◌, vec_capacity}
use Rattle.driver_pass.specs.declared.pass.Pass.TheInside.{Inside}
use Rattle.driver_pass.specs.inner.Viewed.{numbers_in, PassView}

abbrev pub view_of : Inside → PassView
view_of p = record { taken = p.taken.items; kicks = numbers_in p.kicks.items; stage = p.stage; aside = p.aside; behind = p.behind }

-- no entry needs more memory
pub record PassHasRoom (p : Inside) : Type 0 where
  pub taken : 64 ≤ vec_capacity p.taken
  pub kicks : 16 ≤ vec_capacity p.kicks
