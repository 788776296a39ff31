-- The list with one hold less.
use Rattle.std.specs.Prelude.{ℕ, slice_set}
use Rattle.driver_list.specs.inner.Active.{ActiveList}
use Rattle.driver_list.specs.inner.Holds.{own_of, but_last}

-- the list where an actor's last hold is ended
abbrev pub with_fewer : ActiveList → ℕ → ActiveList
with_fewer list holder = record list { own = slice_set list.own holder (but_last (own_of list.own holder)) }
