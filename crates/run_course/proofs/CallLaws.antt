-- A store that tells its calls goes on to, whatever the reclaimer asks of it.
use Rattle.std.proofs.Common.{◌≡◌, ℕ, List, Option, Some, None, is_some, refl, sym, ap, subst, ◌∙◌}
use Rattle.std.specs.Option.{IsSomeAnd}
use Rattle.sgx_rules.specs.declared.entries.Entry.{Entry}
use Rattle.sgx_rules.specs.declared.entries.Look.{Look}
use Rattle.sgx_rules.specs.declared.entries.Look.TheVariants as looks
use Rattle.sgx_types.specs.declared.names.Page.{Page}
use Rattle.backing_store.specs.Calls.{Call}
use Rattle.backing_store.specs.inner.Calls.{with_call}
use Rattle.machine_laws.specs.inner.State.{State}
use Rattle.driver_tables.specs.declared.driver.Driver.{Driver}
use Rattle.driver_reclaim.specs.declared.turns.PassTurn.{PassTurn}
use Rattle.driver_reclaim.specs.declared.turns.PassTurn.TheVariants as passed
use Rattle.driver_pass.specs.declared.stages.Taken.{Taken}
use Rattle.driver_pass.specs.inner.Viewed.{PassView, sealing_in}
use Rattle.driver_reclaim.specs.inner.Asked.{look_told, told_by}
use Rattle.driver_reclaim.specs.inner.Looked.{told_look}
use Rattle.driver_reclaim.specs.inner.Rests.{IsWait}
use Rattle.driver_reclaim.specs.inner.Stored.{IsStored, StoredSays}
use Rattle.run_course.specs.declared.course.Course.{Course}
use Rattle.run_course.specs.declared.turn.Turn.{Turn}
use Rattle.run_course.specs.declared.turn.Turn.TheVariants as turns
use Rattle.run_course.specs.inner.Passing.{IsFollowed, IsWaiting}
use Rattle.run_course.specs.inner.Turns.{WritesOut}

call_tells : (call : Call) (told : Option (List Call)) → is_some (with_call call told) ≡ is_some told
call_tells call None = refl
call_tells call (Some calls) = refl

look_tells : (page : Page) (look : Look) (told : Option (List Call)) → is_some (told_look page look told) ≡ is_some told
look_tells page looks.Taken told = call_tells _ told
look_tells page looks.NoRoom told = call_tells _ told
look_tells page look told = refl

-- .. a turn of a pass
pub turn_tells : (turn : PassTurn) (told told' : Option (List Call)) → told' ≡ told_by (look_told turn) told → is_some told' ≡ is_some told
turn_tells turn told told' is = ap is_some is ∙ by_look (look_told turn)
  where
    by_look : (o : Option (Page × Look)) → is_some (told_by o told) ≡ is_some told
    by_look None = refl
    by_look (Some x) = look_tells x.0 x.1 told

-- .. or the end of a write-out
pub stored_tells : (v : PassView) (s t : State) (d d' : Driver) (told told' : Option (List Call)) (before after : ℕ) (e : Entry)
    → StoredSays v s d told before e t d' told' after → is_some told' ≡ is_some told
stored_tells v s t d d' told told' before after e says = by_one (sealing_in v) says
  where
    by_one : (o : Option Taken) → IsSomeAnd o (λ one. IsStored one s d told before e t d' told' after) → is_some told' ≡ is_some told
    by_one None k = absurd k
    by_one (Some one) k = ap is_some k.call ∙ call_tells _ told

-- .. whose entry says so
pub stored_writes : (v : PassView) (s t : State) (d d' : Driver) (told told' : Option (List Call)) (before after : ℕ) (e : Entry)
    → StoredSays v s d told before e t d' told' after → WritesOut e.event
stored_writes v s t d d' told told' before after e says = by_one (sealing_in v) says
  where
    by_one : (o : Option Taken) → IsSomeAnd o (λ one. IsStored one s d told before e t d' told' after) → WritesOut e.event
    by_one None k = absurd k
    by_one (Some one) k = subst (λ (x : Entry). WritesOut x.event) (sym k.out.entry) tt

-- what only answers was a turn of the pass that waits
pub followed_waits : (old new : Course) (turn : PassTurn) (result : Turn) (told : Option (List Call)) (spare : ℕ)
    → IsFollowed old turn result new told spare → IsWaiting result → IsWait turn
followed_waits old new (passed.Again why) result told spare is w = tt
followed_waits old new turn (turns.Did n) told spare is w = absurd w
followed_waits old new turn (turns.Seal work) told spare is w = absurd w
followed_waits old new turn (turns.Unseal work) told spare is w = absurd w
followed_waits old new (passed.One e) (turns.Again why) told spare is w = absurd is
followed_waits old new (passed.One e) turns.Finished told spare is w = absurd is
followed_waits old new (passed.One e) turns.Stopped told spare is w = absurd is
followed_waits old new (passed.Spent e) (turns.Again why) told spare is w = absurd is
followed_waits old new (passed.Spent e) turns.Finished told spare is w = absurd is
followed_waits old new (passed.Spent e) turns.Stopped told spare is w = absurd is
followed_waits old new (passed.Kicks bits) (turns.Again why) told spare is w = absurd is
followed_waits old new (passed.Kicks bits) turns.Finished told spare is w = absurd is
followed_waits old new (passed.Kicks bits) turns.Stopped told spare is w = absurd is
followed_waits old new (passed.Seal e) (turns.Again why) told spare is w = absurd is
followed_waits old new (passed.Seal e) turns.Finished told spare is w = absurd is
followed_waits old new (passed.Seal e) turns.Stopped told spare is w = absurd is
