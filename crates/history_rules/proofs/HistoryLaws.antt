-- What a history gives: each rule along the trace, no place that fails, and what the driver's laws ask.
use Rattle.std.proofs.Common.{◌≤◌, ℕ, subst, List, [], ◌∷◌, ◌++◌, Option, Some, None}
use Rattle.sgx_rules.specs.declared.entries.Entry.{Entry}
use Rattle.sgx_rules.specs.Rules.{Along}
use Rattle.job_grammar.specs.Jobs.{JobView}
use Rattle.script_rules.specs.Machines.{machine_of}
use Rattle.driver_laws.specs.inner.Driven.{IsDriven}
use Rattle.driver_rules.specs.Passes.{pass}
use Rattle.driver_rules.specs.Scripts.{IsEnded}
use Rattle.driver_laws.specs.inner.Sound.{IsSound}
use Rattle.driver_laws.specs.inner.Stages.{KeepsPages}
use Rattle.driver_laws.specs.inner.Three.{IsApart, TcsAreApart}
use Rattle.driver_laws.specs.inner.Tracks.{KeepsTracks}
use Rattle.driver_laws.proofs.HistoryLaws.{driven_pages, driven_sound}
use Rattle.driver_laws.proofs.TcsLaws.{driven_apart}
use Rattle.history_rules.specs.declared.rules.Rule.{Rule}
use Rattle.history_rules.specs.declared.rules.Rule.TheVariants as rules
use Rattle.history_rules.specs.Histories.{AtEntry, Before, FailsFirst, History, IsPlace, Keeps, RuleSays, Throughout}
use Rattle.history_rules.specs.inner.Histories.{GoesOn}

-- ---- the rules of a history

pub keeps_rule : (j : JobView) (past : List Entry) → History j past → (rule : Rule) → Keeps j rule past
keeps_rule j past h rules.Script = h.script
keeps_rule j past h rules.Refusal = h.refusal
keeps_rule j past h rules.Flat = h.flat
keeps_rule j past h rules.Fits = h.fits
keeps_rule j past h rules.Stale = h.stale
keeps_rule j past h rules.Evict = h.evict
keeps_rule j past h rules.Fresh = h.fresh
keeps_rule j past h rules.Sealed = h.sealed
keeps_rule j past h rules.Measure = h.measure
keeps_rule j past h rules.Age = h.age
keeps_rule j past h rules.Kick = h.kick

pub goes_on : (j : JobView) (past : List Entry) → History j past → GoesOn j past
goes_on j past h = record {
  script = h.script.1;
  refusal = h.refusal;
  flat = h.flat;
  fits = h.fits;
  stale = h.stale;
  evict = h.evict;
  fresh = h.fresh;
  sealed = h.sealed;
  measure = h.measure;
  age = h.age;
  kick = h.kick;
}

-- a rule of places holds at the end of the shorter trace
pub shorter : (j : JobView) (e : Entry) (past : List Entry) → GoesOn j (e ∷ past) → GoesOn j past
shorter j e past h = record {
  script = h.script.1;
  refusal = (tt, h.refusal.1.1);
  flat = (tt, h.flat.1.1);
  fits = ((tt, h.fits.1.0.1), h.fits.1.1);
  stale = ((tt, h.stale.1.0.1), h.stale.1.1);
  evict = (tt, h.evict.1.1);
  fresh = (tt, h.fresh.1.1);
  sealed = (tt, h.sealed.1.1);
  measure = (tt, h.measure.1.1);
  age = (tt, h.age.1.1);
  kick = (tt, h.kick.1.1);
}

-- .. and where it is ended, what goes on is a history
pub ended_history : (j : JobView) (past : List Entry) → GoesOn j past → IsEnded j past → History j past
ended_history j past on ended = record {
  script = (ended, on.script);
  refusal = on.refusal;
  flat = on.flat;
  fits = on.fits;
  stale = on.stale;
  evict = on.evict;
  fresh = on.fresh;
  sealed = on.sealed;
  measure = on.measure;
  age = on.age;
  kick = on.kick;
}

-- ---- a trace that fails somewhere

said_before : (says : List Entry → Option Entry → Type 0) (later past : List Entry) (e : Entry) → Before says (later ++ e ∷ past)
    → says past (Some e)
said_before says [] past e h = h.0
said_before says (x ∷ later) past e h = said_before says later past e h.1

pub said_at : (says : List Entry → Option Entry → Type 0) (whole past : List Entry) (next : Option Entry) → IsPlace whole past next
    → Throughout says whole → says past next
said_at says whole past None same h = subst (λ p. says p None) same h.0
said_at says whole past (Some e) cut h = said_before says cut.0 past e (subst (Before says) cut.1 h.1)

pub no_history : (j : JobView) (whole : List Entry) (place : ℕ) (rule : Rule) → FailsFirst j whole place rule → History j whole → ⊥
no_history j whole place rule fault h =
    fault.here.fails (said_at (RuleSays j rule) whole fault.past fault.next fault.is_place (keeps_rule j whole h rule))

-- ---- the driver's laws

along : (rule : List Entry → Entry → Type 0) (past : List Entry) → Before (AtEntry rule) past → Along rule past
along rule [] h = tt
along rule (e ∷ past) h = (h.0, along rule past h.1)

placed_along : (rule : List Entry → Entry → Type 0) (P : List Entry → Type 0) (past : List Entry)
    → Before (λ p next. AtEntry rule p next × P p) past
    → Along rule past
placed_along rule P [] h = tt
placed_along rule P (e ∷ past) h = (h.0.0, placed_along rule P past h.1)

script_along : (j : JobView) (past : List Entry) → Before (RuleSays j rules.Script) past
    → Along (λ p e. RuleSays j rules.Script p (Some e)) past
script_along j [] h = tt
script_along j (e ∷ past) h = (h.0, script_along j past h.1)

pub driven : (j : JobView) (past : List Entry) → GoesOn j past → IsDriven (machine_of j) j past
driven j past h = record {
  moves = record {
    refusal = along _ past h.refusal.1;
    flat = along _ past h.flat.1;
    evict = along _ past h.evict.1;
    fresh = along _ past h.fresh.1;
  };
  fits = placed_along _ _ past h.fits.1;
  script = script_along j past h.script;
  age = along _ past h.age.1;
  kick = along _ past h.kick.1;
}

pub sound : (j : JobView) (past : List Entry) → 1 ≤ j.start_version → GoesOn j past → IsSound past
sound j past positive h = (driven_sound (machine_of j) j past positive (driven j past h)).0

pub tracks : (j : JobView) (past : List Entry) → 1 ≤ j.start_version → GoesOn j past → KeepsTracks past (pass j past)
tracks j past positive h = (driven_sound (machine_of j) j past positive (driven j past h)).1

pub pages : (j : JobView) (past : List Entry) → 1 ≤ j.start_version → GoesOn j past → KeepsPages past (pass j past)
pages j past positive h = driven_pages (machine_of j) j past positive (driven j past h)

pub three : (j : JobView) (past : List Entry) → 1 ≤ j.start_version → TcsAreApart j → GoesOn j past → (p : ℕ) → IsApart j past p
three j past positive apart h = driven_apart (machine_of j) j past positive apart (driven j past h)
