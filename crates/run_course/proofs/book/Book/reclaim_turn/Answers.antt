use Rattle.std.proofs.Common.{◌≡◌, true, false, is_some, sym, ap, subst, ◌∙◌}
use Rattle.sgx_types.specs.declared.names.Actor.TheVariants as actors
use Rattle.driver_rules.specs.inner.Stops.{frame_started}
use Rattle.driver_rules.specs.Stops.{last_event}
use Rattle.run_course.specs.inner.Views.{BookView, is_stopped}
use Rattle.run_course.proofs.OpenViewLaws.{again_seen}
use Rattle.run_course.proofs.ReclaimViewLaws.{open_seals, reclaim_turn_kept, reclaim_turn_seen}
use Rattle.run_course.proofs.StopLaws.{first_false, reclaim_goes}
use Rattle.run_course.proofs.book.Book.reclaim_turn.Goals as goal

pub invariant_of-self : goal.invariant_of-self
invariant_of-self g c =
    reclaim_turn_kept c.self.inside.course.value c.reclaim_turn.new.self (g.B.Backing.told c.self.inside.store)
    (g.B.Backing.told c.reclaim_turn.new.store) (g.B.Backing.plans c.self.inside.store) (g.B.Backing.plans c.reclaim_turn.new.store)
    (g.B.Backing.spare c.reclaim_turn.new.store) c.reclaim_turn.ensures.keeps c.reclaim_turn.ensures.plans c.reclaim_turn.ensures.tells
    c.reclaim_turn.result
    (g.B.Backing.spare c.self.inside.store) (c.reclaim_turn.new.store ≡ c.self.inside.store) c.self.invariant
    (rw c.deref_mut.ensures.value at c.reclaim_turn.ensures.turn) (rw c.deref_mut.ensures.value at c.reclaim_turn.ensures.memory)

pub returns-clause-turn : goal.returns-clause-turn
returns-clause-turn g c =
    let going = subst (λ (b : BookView). is_stopped b ≡ false) (sym c.self.view_is) (sym c.is_stopped.ensures ∙ c.if-is_stopped.false) in
    rw (← c.self.view_is, first_false c.self.inside.out_of_memory _ going)
    (reclaim_turn_seen c.self.inside.course.value c.reclaim_turn.new.self (g.B.Backing.told c.self.inside.store)
    (g.B.Backing.told c.reclaim_turn.new.store) (g.B.Backing.plans c.self.inside.store) (g.B.Backing.plans c.reclaim_turn.new.store)
    (g.B.Backing.spare c.reclaim_turn.new.store) c.reclaim_turn.ensures.keeps c.reclaim_turn.ensures.plans c.reclaim_turn.ensures.tells
    c.reclaim_turn.result
    (g.B.Backing.spare c.self.inside.store) (c.reclaim_turn.new.store ≡ c.self.inside.store) c.self.invariant.keeps (ap g.B.Backing.told)
    c.reclaim_turn.ensures.rests (λ sealing. ((rw c.deref_mut.ensures.value at c.reclaim_turn.ensures.again) sealing).1)
    (rw c.deref_mut.ensures.value at c.reclaim_turn.ensures.turn))

pub returns-clause-stopped : goal.returns-clause-stopped
returns-clause-stopped g c =
    reclaim_goes c.args.self.now _ (sym c.is_stopped.ensures ∙ c.if-is_stopped.false) c.reclaim_turn.result (returns-clause-turn g c)

pub returns-clause-again : goal.returns-clause-again
returns-clause-again g c = λ pending.
    (let same = (rw c.deref_mut.ensures.value at c.reclaim_turn.ensures.again)
    (open_seals c.self.inside.course.value (g.B.Backing.told c.self.inside.store) (g.B.Backing.spare c.self.inside.store)
    c.self.invariant.keeps
    (subst (λ (b : BookView). is_some (frame_started (last_event b.past actors.Reclaimer)) ≡ true) (sym c.self.view_is) pending)) in
    again_seen c.self.inside.course.value c.reclaim_turn.new.self (g.B.Backing.told c.self.inside.store)
    (g.B.Backing.told c.reclaim_turn.new.store) (g.B.Backing.plans c.self.inside.store) (g.B.Backing.plans c.reclaim_turn.new.store)
    c.self.inside.out_of_memory same.0 (ap g.B.Backing.told same.1) (ap g.B.Backing.plans same.1) ∙ c.self.view_is)
