-- What the test of a fault tells.
use Rattle.std.proofs.Common.{is_none, ◌≡◌, ◌<◌, ◌&&◌, not, Bool, true, false, refl, List, [], ◌∷◌, Some, None, length}
use Rattle.std.proofs.Common.{arith}
use Rattle.std.proofs.lemmas.Bool.{false≢true}
use Rattle.sgx_rules.specs.declared.entries.Action.TheVariants.{Init}
use Rattle.sgx_types.specs.declared.names.Actor.{Actor}
use Rattle.sgx_rules.specs.declared.entries.Entry.{Entry}
use Rattle.sgx_rules.specs.Flat.{accepts, flat}
use Rattle.sgx_types.proofs.Truths.{both_true}
use Rattle.measure_log.specs.Rule.{measurement}
use Rattle.job_grammar.specs.Jobs.{JobView}
use Rattle.script_rules.specs.Machines.{machine_of}
use Rattle.driver_rules.specs.inner.Decided.{all_along, is_ended, keeps_age, keeps_kick, keeps_script}
use Rattle.driver_rules.specs.Spares.{outs}
use Rattle.driver_rules.proofs.DecidedLaws.{age_tells, ended_tells, kick_tells, script_tells}
use Rattle.history_rules.specs.declared.rules.Rule.{Rule}
use Rattle.history_rules.specs.declared.rules.Rule.TheVariants as rules
use Rattle.history_rules.specs.Histories.{Before, FailsFirst, FailsHere, History, Keeps, RuleSays, rank}
use Rattle.history_rules.specs.inner.Histories.{is_machines}
use Rattle.worked_driver.specs.inner.Faults.{breaks_at_last, breaks_first, is_history, keeps_eleven, keeps_all_six}
use Rattle.worked_driver.specs.inner.Faults.{keeps_machines}
use Rattle.worked_driver.specs.inner.Faults.{keeps_six_there}
use Rattle.worked_driver.specs.inner.Lawful.{case_at, is_lawful, is_misdone, is_of_six, keeps_six}
use Rattle.worked_driver.specs.inner.Settled.{is_settled}
use Rattle.worked_driver.specs.inner.Words.{measured_init}
use Rattle.worked_driver.proofs.LawfulLaws.{lawful_says, misdone_breaks, none_of, six_say}
use Rattle.worked_driver.proofs.SettledLaws.{settled}

-- what a rule of the machine says of a place alone
says_of_place : (j : JobView) (past : List Entry) (rule : Rule) → is_settled j past ≡ true → is_machines rule ≡ true
    → RuleSays j rule past None
says_of_place j past rules.Refusal h own = tt
says_of_place j past rules.Flat h own = tt
says_of_place j past rules.Fits h own = (tt, (settled j past h).0)
says_of_place j past rules.Stale h own = (tt, (settled j past h).1)
says_of_place j past rules.Evict h own = tt
says_of_place j past rules.Fresh h own = tt
says_of_place j past rules.Sealed h own = tt
says_of_place j past rules.Measure h own = tt
says_of_place j past rules.Script h own = cc
says_of_place j past rules.Age h own = cc
says_of_place j past rules.Kick h own = cc

pub machines_say : (j : JobView) (past : List Entry) (e : Entry) → keeps_machines j past e ≡ true → (rule : Rule) → is_machines rule ≡ true
    → RuleSays j rule past (Some e)
machines_say j past e h rule own =
    let k = both_true (is_lawful j past e.actor e.event) (is_settled j past) h in
    lawful_says j past e.actor e.event rule k.0 own (says_of_place j past rule k.1 own)

-- ---- along a trace

six_before : (j : JobView) (past : List Entry) (rule : Rule) → all_along (keeps_six_there j) past ≡ true → is_of_six rule ≡ true
    → is_machines rule ≡ true → Before (RuleSays j rule) past
six_before j [] rule h six own = tt
six_before j (e ∷ past) rule h six own =
    let k = both_true (keeps_six_there j past e) (all_along (keeps_six_there j) past) h in
    let l = both_true (keeps_six j past e.actor e.event) (is_settled j past) k.0 in
    (six_say j past e.actor e.event rule l.0 six (says_of_place j past rule l.1 own), six_before j past rule k.1 six own)

machines_of_six : (rule : Rule) → is_of_six rule ≡ true → is_machines rule ≡ true
machines_of_six rules.Refusal h = refl
machines_of_six rules.Flat h = refl
machines_of_six rules.Fits h = refl
machines_of_six rules.Stale h = refl
machines_of_six rules.Evict h = refl
machines_of_six rules.Fresh h = refl
machines_of_six _ h = absurd (false≢true h)

pub six_kept : (j : JobView) (past : List Entry) → keeps_all_six j past ≡ true → (rule : Rule) → is_of_six rule ≡ true
    → Keeps j rule past
six_kept j past h rule six =
    let k = both_true (is_settled j past) (all_along (keeps_six_there j) past) h in
    let own = machines_of_six rule six in
    (says_of_place j past rule k.0 own, six_before j past rule k.1 six own)

-- ---- which rule is broken first

-- where a test does not pass, what it tells is not so
refuted : (b : Bool) (P : Type 0) → (P → b ≡ true) → not b ≡ true → P → ⊥
refuted true P told h x = false≢true h
refuted false P told h x = false≢true (told x)

before_refusal : (j : JobView) (past : List Entry) (e : Entry) → keeps_script j past e ≡ true → (r : Rule) → rank r < 1
    → RuleSays j r past (Some e)
before_refusal j past e script rules.Script low = (script_tells j past e).0 script
before_refusal j past e script rules.Refusal low = absurd (omega (arith, low))
before_refusal j past e script rules.Flat low = absurd (omega (arith, low))
before_refusal j past e script rules.Fits low = absurd (omega (arith, low))
before_refusal j past e script rules.Stale low = absurd (omega (arith, low))
before_refusal j past e script rules.Evict low = absurd (omega (arith, low))
before_refusal j past e script rules.Fresh low = absurd (omega (arith, low))
before_refusal j past e script rules.Sealed low = absurd (omega (arith, low))
before_refusal j past e script rules.Measure low = absurd (omega (arith, low))
before_refusal j past e script rules.Age low = absurd (omega (arith, low))
before_refusal j past e script rules.Kick low = absurd (omega (arith, low))

before_age : (j : JobView) (past : List Entry) (e : Entry) → keeps_script j past e ≡ true
    → ((rule : Rule) → is_machines rule ≡ true → RuleSays j rule past (Some e)) → (r : Rule) → rank r < 9 → RuleSays j r past (Some e)
before_age j past e script machines rules.Script low = (script_tells j past e).0 script
before_age j past e script machines rules.Age low = absurd (omega (arith, low))
before_age j past e script machines rules.Kick low = absurd (omega (arith, low))
before_age j past e script machines rules.Refusal low = machines rules.Refusal refl
before_age j past e script machines rules.Flat low = machines rules.Flat refl
before_age j past e script machines rules.Fits low = machines rules.Fits refl
before_age j past e script machines rules.Stale low = machines rules.Stale refl
before_age j past e script machines rules.Evict low = machines rules.Evict refl
before_age j past e script machines rules.Fresh low = machines rules.Fresh refl
before_age j past e script machines rules.Sealed low = machines rules.Sealed refl
before_age j past e script machines rules.Measure low = machines rules.Measure refl

pub first_broken : (j : JobView) (past : List Entry) (e : Entry) (rule : Rule) → breaks_first rule j past e ≡ true
    → FailsHere j past (Some e) rule
first_broken j past e rules.Script h = record {
  earlier = λ r low. absurd (omega (arith, low));
  fails = refuted (keeps_script j past e) _ (script_tells j past e).1 h;
}
first_broken j past e rules.Refusal h =
    let k = both_true (keeps_script j past e) (is_misdone j past e.actor e.event) h in record {
      earlier = before_refusal j past e k.0;
      fails = misdone_breaks j past e.actor e.event k.1;
    }
first_broken j past e rules.Age h =
    let k = both_true (keeps_script j past e) (keeps_machines j past e && not (keeps_age j past e)) h in
    let l = both_true (keeps_machines j past e) (not (keeps_age j past e)) k.1 in record {
      earlier = before_age j past e k.0 (machines_say j past e l.0);
      fails = refuted (keeps_age j past e) _ (age_tells j past (outs j past) e).1 l.1;
    }
first_broken j past e rules.Kick h =
    let k = both_true (keeps_script j past e) (keeps_machines j past e && (keeps_age j past e && not (keeps_kick j past e))) h in
    let l = both_true (keeps_machines j past e) (keeps_age j past e && not (keeps_kick j past e)) k.1 in
    let m = both_true (keeps_age j past e) (not (keeps_kick j past e)) l.1 in record {
      earlier = before_kick k.0 l.0 m.0;
      fails = refuted (keeps_kick j past e) _ (kick_tells j past e).1 m.1;
    }
  where
    before_kick : keeps_script j past e ≡ true → keeps_machines j past e ≡ true → keeps_age j past e ≡ true → (r : Rule) → rank r < 10
        → RuleSays j r past (Some e)
    before_kick script machines age rules.Age low = (age_tells j past (outs j past) e).0 age
    before_kick script machines age rules.Kick low = absurd (omega (arith, low))
    before_kick script machines age rules.Script low = (script_tells j past e).0 script
    before_kick script machines age r low = before_age j past e script (machines_say j past e machines) r (omega (arith, low))
first_broken j past e _ h = absurd (false≢true h)

-- an `init` that answers its enclave's measurement
init_says : (j : JobView) (past : List Entry) (a : Actor) → is_none (case_at (machine_of j) past a (Init 1 None)) ≡ true
    → accepts (flat past) a (Init 1 None) ≡ true → (rule : Rule) → is_machines rule ≡ true → RuleSays j rule past None
    → RuleSays j rule past (Some (measured_init a past))
init_says j past a row taken rules.Refusal own h = (none_of (case_at (machine_of j) past a (Init 1 None)) row, (measurement past 1, refl))
init_says j past a row taken rules.Flat own h = λ seen. record { taken = taken; same = refl }
init_says j past a row taken rules.Fits own h = ((tt, tt), h.1)
init_says j past a row taken rules.Stale own h = (tt, h.1)
init_says j past a row taken rules.Evict own h = tt
init_says j past a row taken rules.Fresh own h = record { rising = tt; reload = tt }
init_says j past a row taken rules.Sealed own h = tt
init_says j past a row taken rules.Measure own h = (refl, tt)
init_says j past a row taken rules.Script own h = cc
init_says j past a row taken rules.Age own h = cc
init_says j past a row taken rules.Kick own h = cc

pub init_breaks_age : (j : JobView) (past : List Entry) (a : Actor) → keeps_script j past (measured_init a past) ≡ true
    → is_none (case_at (machine_of j) past a (Init 1 None)) ≡ true → accepts (flat past) a (Init 1 None) ≡ true → is_settled j past ≡ true
    → not (keeps_age j past (measured_init a past)) ≡ true → FailsHere j past (Some (measured_init a past)) rules.Age
init_breaks_age j past a script row taken place broken = record {
  earlier = before_age j past (measured_init a past) script (λ rule own. init_says j past a row taken rule own
      (says_of_place j past rule place own));
  fails = refuted (keeps_age j past (measured_init a past)) _ (age_tells j past (outs j past) (measured_init a past)).1 broken;
}

-- ---- whole histories, and where a trace fails first

says_eleven : (j : JobView) (past : List Entry) (e : Entry) (rule : Rule) → keeps_eleven j past e ≡ true → RuleSays j rule past (Some e)
says_eleven j past e rule h =
    let one = both_true (keeps_machines j past e) (keeps_script j past e && (keeps_age j past e && keeps_kick j past e)) h in
    let two = both_true (keeps_script j past e) (keeps_age j past e && keeps_kick j past e) one.1 in
    let three = both_true (keeps_age j past e) (keeps_kick j past e) two.1 in
    by_rule one.0 two.0 three.0 three.1 rule
  where
    by_rule : keeps_machines j past e ≡ true → keeps_script j past e ≡ true → keeps_age j past e ≡ true → keeps_kick j past e ≡ true
        → (rule : Rule) → RuleSays j rule past (Some e)
    by_rule machines script age kick rules.Script = (script_tells j past e).0 script
    by_rule machines script age kick rules.Age = (age_tells j past (outs j past) e).0 age
    by_rule machines script age kick rules.Kick = (kick_tells j past e).0 kick
    by_rule machines script age kick rules.Refusal = machines_say j past e machines rules.Refusal refl
    by_rule machines script age kick rules.Flat = machines_say j past e machines rules.Flat refl
    by_rule machines script age kick rules.Fits = machines_say j past e machines rules.Fits refl
    by_rule machines script age kick rules.Stale = machines_say j past e machines rules.Stale refl
    by_rule machines script age kick rules.Evict = machines_say j past e machines rules.Evict refl
    by_rule machines script age kick rules.Fresh = machines_say j past e machines rules.Fresh refl
    by_rule machines script age kick rules.Sealed = machines_say j past e machines rules.Sealed refl
    by_rule machines script age kick rules.Measure = machines_say j past e machines rules.Measure refl

eleven_before : (j : JobView) (past : List Entry) (rule : Rule) → all_along (keeps_eleven j) past ≡ true → Before (RuleSays j rule) past
eleven_before j [] rule h = tt
eleven_before j (e ∷ past) rule h =
    let k = both_true (keeps_eleven j past e) (all_along (keeps_eleven j) past) h in
    (says_eleven j past e rule k.0, eleven_before j past rule k.1)

pub whole_history : (j : JobView) (past : List Entry) → is_history j past ≡ true → History j past
whole_history j past h =
    let k = both_true (is_settled j past && is_ended j past) (all_along (keeps_eleven j) past) h in
    let l = both_true (is_settled j past) (is_ended j past) k.0 in record {
      script = ((ended_tells j past).0 l.1, eleven_before j past rules.Script k.1);
      refusal = (tt, eleven_before j past rules.Refusal k.1);
      flat = (tt, eleven_before j past rules.Flat k.1);
      fits = (says_of_place j past rules.Fits l.0 refl, eleven_before j past rules.Fits k.1);
      stale = (says_of_place j past rules.Stale l.0 refl, eleven_before j past rules.Stale k.1);
      evict = (tt, eleven_before j past rules.Evict k.1);
      fresh = (tt, eleven_before j past rules.Fresh k.1);
      sealed = (tt, eleven_before j past rules.Sealed k.1);
      measure = (tt, eleven_before j past rules.Measure k.1);
      age = (tt, eleven_before j past rules.Age k.1);
      kick = (tt, eleven_before j past rules.Kick k.1);
    }

pub fails_at_last : (j : JobView) (past : List Entry) (e : Entry) (rule : Rule) → breaks_at_last rule j past e ≡ true
    → FailsFirst j (e ∷ past) (length past) rule
fails_at_last j past e rule h =
    let k = both_true (breaks_first rule j past e) (all_along (keeps_eleven j) past) h in record {
      past = past;
      next = Some e;
      is_place = ([], refl);
      placed = refl;
      before = λ r. eleven_before j past r k.1;
      here = first_broken j past e rule k.0;
    }
