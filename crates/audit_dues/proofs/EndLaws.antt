-- What is found of the end by the tables is what the rules say of it.
use Rattle.std.proofs.Common.{◌≡◌, ℕ, zero, suc, ◌==◌, ◌<◌, ◌≤◌, ◌&&◌, ◌||◌, Bool, true, false}
use Rattle.std.proofs.Common.{if◌then◌else◌, List, [], ◌∷◌, Option, None, Some, length, slice_get, refl, sym, ap, subst}
use Rattle.std.proofs.Common.{◌∙◌, arith}
use Rattle.std.proofs.lemmas.Bool.{eq-eqb, eqb-false, eqb-true, ne_eqb}
use Rattle.std.proofs.lemmas.Option.{slice_get_within}
use Rattle.std.proofs.Math.Bool.{and-false}
use Rattle.sgx_types.specs.declared.names.Actor.{Actor}
use Rattle.sgx_types.specs.declared.names.Actor.TheVariants as actors
use Rattle.sgx_rules.specs.declared.entries.Entry.{Entry}
use Rattle.sgx_rules.specs.declared.entries.Event.{Event}
use Rattle.sgx_rules.specs.declared.entries.Event.TheVariants.{Did, Refused, Age, Kick, Bus}
use Rattle.sgx_rules.specs.Processors.{Stay, is_by, stay}
use Rattle.sgx_rules.specs.Rules.{Along}
use Rattle.sgx_rules.specs.Starts.{open_start}
use Rattle.cached_translations.specs.declared.processor.Mode.{Mode}
use Rattle.cached_translations.specs.declared.processor.Mode.TheVariants.{Inside, Outside}
use Rattle.job_grammar.specs.Jobs.{JobView}
use Rattle.script_rules.specs.declared.steps.BuildStep.{BuildStep}
use Rattle.script_rules.specs.Script.{build_of, built, replied, script_of}
use Rattle.machine_laws.specs.inner.Columns.{seat_of_stay}
use Rattle.sgx_machine.specs.inner.Parts.{Parts, cpu_at, seat_of_mode}
use Rattle.driver_rules.specs.inner.Decided.{are_done, is_done, is_ended, is_outside}
use Rattle.driver_rules.specs.Dues.{IsNext, Stopped}
use Rattle.driver_rules.specs.Scripts.{IsActors, ScriptRule}
use Rattle.driver_rules.specs.Stops.{has_bus, is_bus, is_spent}
use Rattle.driver_rules.specs.Turns.{Last, Loads, Fails, Other, WasEnded, cpu_due, due_after, is_last, last_by, last_of, turn_due}
use Rattle.driver_laws.specs.inner.Agrees.{Keeping}
use Rattle.driver_tables.specs.declared.driver.Driver.{Driver}
use Rattle.due_tables.specs.declared.cpu_turns.Last as kept
use Rattle.due_tables.specs.declared.cpu_turns.Last.TheVariants as ways
use Rattle.due_tables.specs.declared.turns.Turns.{Turns}
use Rattle.due_tables.specs.inner.Asked.{next_step}
use Rattle.due_tables.specs.inner.CpuTurns.{last_told, turn_at}
use Rattle.due_tables.specs.inner.Due.{IsShown}
use Rattle.due_tables.specs.inner.Ending.{EndsAreTold}
use Rattle.due_tables.specs.inner.Shown.{ShowsTurns}
use Rattle.due_tables.proofs.DueLaws.{head_left}
use Rattle.due_tables.proofs.EndLaws.{built_few, past_all}
use Rattle.due_tables.proofs.LookLaws.{looks_are}
use Rattle.audit_dues.specs.inner.Ends.{are_done_by, is_done_by, is_ended_by, none_left, stands_outside, was_ended}

-- no step is left exactly where the build is whole
build_is : (j : JobView) (past : List Entry) (t : Turns) → ShowsTurns j past t → Along (ScriptRule j) past
    → none_left (next_step j t) ≡ (built past == length (build_of j))
build_is j past t s along =
    ap none_left (ap (λ steps. slice_get steps 0) s.steps ∙ head_left (build_of j) (built past))
    ∙ by_step (slice_get (build_of j) (built past)) refl
  where
    by_step : (o : Option BuildStep) → slice_get (build_of j) (built past) ≡ o → none_left o ≡ (built past == length (build_of j))
    by_step None is =
        let high = past_all (build_of j) (built past) is in
        let few = built_few j past along in sym (eq-eqb (built past) (length (build_of j)) (omega (arith, high, few)))
    by_step (Some step) is =
        let low = slice_get_within (build_of j) (built past) step is in
        sym (ne_eqb (built past) (length (build_of j)) (λ h. omega (arith, low, h)))

-- ---- who was ended makes no more entries

quiet : (j : JobView) (past : List Entry) (p : ℕ) (ev : Event) → last_of past p ≡ WasEnded → IsNext (cpu_due j past p) ev → ⊥
quiet j past p ev = by_last (is_spent past) (last_of past p)
  where
    by_last : (b : Bool) (l : Last) → l ≡ WasEnded
        → IsNext (if b then Stopped else due_after l (is_last past p) (turn_due j past p)) ev → ⊥
    by_last true l is next = next
    by_last false WasEnded is next = next
    by_last false (Loads f page) is next = cc
    by_last false (Fails page why) is next = cc
    by_last false Other is next = cc

bus_ends : (j : JobView) (past : List Entry) (p : ℕ) → Along (ScriptRule j) past → has_bus past p ≡ true → last_of past p ≡ WasEnded
bus_ends j [] p along h = cc
bus_ends j (e ∷ past) p along h = by_actor e.actor along.0.next (bus_ends j past p along.1) h
  where
    own : (ev : Event) → IsNext (cpu_due j past p) ev → (has_bus past p ≡ true → last_of past p ≡ WasEnded)
        → (if is_bus ev then true else has_bus past p) ≡ true → last_by ev (open_start past) ≡ WasEnded
    own (Bus page why) next before k = refl
    own (Did action answer) next before k = absurd (quiet j past p (Did action answer) (before k) next)
    own (Refused action refusal) next before k = absurd (quiet j past p (Refused action refusal) (before k) next)
    own (Age page look) next before k = absurd (quiet j past p (Age page look) (before k) next)
    own (Kick cpu) next before k = absurd (quiet j past p (Kick cpu) (before k) next)

    by_test : (c : ℕ) (b : Bool) → (c == p) ≡ b → IsNext (cpu_due j past c) e.event
        → (has_bus past p ≡ true → last_of past p ≡ WasEnded)
        → (if b then (if is_bus e.event then true else has_bus past p) else has_bus past p) ≡ true
        → (if b then last_by e.event (open_start past) else last_of past p) ≡ WasEnded
    by_test c true same next before k = own e.event (subst (λ q. IsNext (cpu_due j past q) e.event) (eqb-true c p same) next) before k
    by_test c false other next before k = before k

    by_actor : (a : Actor) → IsActors j past a e.event → (has_bus past p ≡ true → last_of past p ≡ WasEnded)
        → (if is_by p a then (if is_bus e.event then true else has_bus past p) else has_bus past p) ≡ true
        → (if is_by p a then last_by e.event (open_start past) else last_of past p) ≡ WasEnded
    by_actor actors.Builder n before k = before k
    by_actor (actors.Cpu c) n before k = by_test c.0 (c.0 == p) refl n.1 before k
    by_actor actors.Reclaimer n before k = before k

-- ---- the processors

outside_is : (mode : Mode) (s : Option Stay) → seat_of_mode mode ≡ seat_of_stay s → stands_outside mode ≡ is_outside s
outside_is Outside None h = refl
outside_is Outside (Some s) h = cc
outside_is (Inside e t tf sf epoch) None h = cc
outside_is (Inside e t tf sf epoch) (Some s) h = refl

module _ (k : Keeping) (j : JobView) (past : List Entry) (d : Driver) (m : Parts) (t : Turns) (a : IsShown k j past d m)
    (s : ShowsTurns j past t) (along : Along (ScriptRule j) past) (told : EndsAreTold past) where
  not_ended : (p : ℕ) (l : Last) → l ≡ last_of past p → (l ≡ WasEnded → ⊥) → false ≡ has_bus past p
  not_ended p l is other = by_bus (has_bus past p) refl
    where
      by_bus : (b : Bool) → has_bus past p ≡ b → false ≡ b
      by_bus true h = absurd (other (is ∙ bus_ends j past p along h))
      by_bus false h = refl

  -- who was ended was told of a page that did not come back
  ended_is : (p : ℕ) (l : kept.Last) → last_told l ≡ last_of past p → was_ended l ≡ has_bus past p
  ended_is p ways.WasEnded is = sym (told p (sym is))
  ended_is p (ways.Loads f page) is = not_ended p (Loads f.0 page) is (λ h. cc)
  ended_is p (ways.Fails page why) is = not_ended p (Fails page why) is (λ h. cc)
  ended_is p ways.Other is = not_ended p Other is (λ h. cc)

  done_is : (p : ℕ) → p < length j.scripts → is_done_by j t m p ≡ is_done j past p
  done_is p low =
      let x = turn_at t.cpus p in
      let ops = length (script_of j p) in
      ap (λ b. b || ((x.replied == ops) && stands_outside (cpu_at m p).mode)) (ended_is p x.last (s.cpus p low).last)
      ∙ ap (λ n. has_bus past p || ((n == ops) && stands_outside (cpu_at m p).mode)) (s.cpus p low).replied
      ∙ ap (λ b. has_bus past p || ((replied past p == ops) && b))
      (outside_is (cpu_at m p).mode (stay past p) (looks_are k j past d m t a s p).seat)

  all_done : (n : ℕ) → n ≤ length j.scripts → are_done_by j t m n ≡ are_done j past n
  all_done zero few = refl
  all_done (suc n) few =
      ap (λ b. b && are_done_by j t m n) (done_is n (omega arith))
      ∙ ap (λ b. is_done j past n && b) (all_done n (omega arith))

  pub end_is : is_ended_by j t m d.cpus ≡ is_ended j past
  end_is =
      let cpus : d.cpus ≡ length j.scripts = a.shows.cpus in
      ap (λ b. b || (none_left (next_step j t) && are_done_by j t m d.cpus)) s.spent
      ∙ ap (λ b. is_spent past || (b && are_done_by j t m d.cpus)) (build_is j past t s along)
      ∙ ap (λ b. is_spent past || ((built past == length (build_of j)) && b)) (all_done d.cpus (omega (arith, cpus)))
      ∙ ap (λ n. is_spent past || ((built past == length (build_of j)) && are_done j past n)) cpus

-- ---- by what the code finds

-- one processor that is not done
pub not_all_done : (j : JobView) (t : Turns) (m : Parts) (n p : ℕ) → p < n → is_done_by j t m p ≡ false → are_done_by j t m n ≡ false
not_all_done j t m zero p low h = absurd (omega arith)
not_all_done j t m (suc n) p low h = by_test (p == n) refl (λ k. not_all_done j t m n p k h)
  where
    by_test : (b : Bool) → (p == n) ≡ b → (p < n → are_done_by j t m n ≡ false) → (is_done_by j t m n && are_done_by j t m n) ≡ false
    by_test true same below = ap (λ b. b && are_done_by j t m n) (ap (is_done_by j t m) (sym (eqb-true p n same)) ∙ h)
    by_test false other below =
        let apart : p ≡ n → ⊥ = eqb-false p n other in
        ap (λ b. is_done_by j t m n && b) (below (omega (arith, apart))) ∙ and-false (is_done_by j t m n)

module _ (j : JobView) (t : Turns) (m : Parts) (cpus : ℕ) (fresh : t.is_spent ≡ false) where
  pub end_by_cpus : none_left (next_step j t) ≡ true → are_done_by j t m cpus ≡ is_ended_by j t m cpus
  end_by_cpus whole =
      sym (ap (λ b. b || (none_left (next_step j t) && are_done_by j t m cpus)) fresh ∙ ap (λ b. b && are_done_by j t m cpus) whole)

  pub end_by_build : none_left (next_step j t) ≡ false → false ≡ is_ended_by j t m cpus
  end_by_build left =
      sym (ap (λ b. b || (none_left (next_step j t) && are_done_by j t m cpus)) fresh ∙ ap (λ b. b && are_done_by j t m cpus) left)
