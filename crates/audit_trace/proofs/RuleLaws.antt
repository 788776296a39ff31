-- What an auditor's answers are by the rules.
use Rattle.std.proofs.Common.{◌≡◌, ◌<◌, ℕ, refl, List, ◌∷◌, ◌++◌, Option, Some, None, length, arith}
use Rattle.sgx_rules.specs.declared.entries.Entry.{Entry}
use Rattle.sgx_rules.specs.Rules.{NoPageTwice, NoneStale}
use Rattle.sgx_rules.specs.inner.Rules.{KeepsRules}
use Rattle.seal_record.specs.Records.{Made}
use Rattle.job_grammar.specs.Jobs.{JobView}
use Rattle.script_rules.specs.Machines.{machine_of}
use Rattle.driver_rules.specs.Ages.{AgeRule, KickRule}
use Rattle.driver_rules.specs.Scripts.{IsEnded, ScriptRule}
use Rattle.machine_laws.specs.inner.Histories.{StandsWithAllRules}
use Rattle.machine_laws.specs.inner.State.{State}
use Rattle.machine_laws.proofs.TestLaws.{last_place}
use Rattle.history_rules.specs.declared.rules.Rule.{Rule}
use Rattle.history_rules.specs.declared.rules.Rule.TheVariants as rules
use Rattle.history_rules.specs.Histories.{Before, FailsFirst, FailsHere, RuleSays, rank}
use Rattle.history_rules.specs.inner.Histories.{GoesOn}
use Rattle.audit_machine.specs.inner.Rivals.{KeepsMachines}
use Rattle.audit_machine.proofs.KeptLaws.{last_kept, own_rules}

-- ---- one entry

-- an entry that is not due breaks Script, and no rule is named before that
pub script_fails : (j : JobView) (past : List Entry) (next : Option Entry) → (RuleSays j rules.Script past next → ⊥)
    → FailsHere j past next rules.Script
script_fails j past next fails = record { earlier = λ r low. absurd (omega (arith, low)); fails = fails }

-- ---- of an entry that keeps each rule of the machine

machines_before : (j : JobView) (past : List Entry) (e : Entry) → ScriptRule j past e → KeepsMachines j past e → (r : Rule) → rank r < 9
    → RuleSays j r past (Some e)
machines_before j past e script keeps rules.Script low = script
machines_before j past e script keeps rules.Refusal low = keeps.each rules.Refusal refl
machines_before j past e script keeps rules.Flat low = keeps.each rules.Flat refl
machines_before j past e script keeps rules.Fits low = keeps.each rules.Fits refl
machines_before j past e script keeps rules.Stale low = keeps.each rules.Stale refl
machines_before j past e script keeps rules.Evict low = keeps.each rules.Evict refl
machines_before j past e script keeps rules.Fresh low = keeps.each rules.Fresh refl
machines_before j past e script keeps rules.Sealed low = keeps.each rules.Sealed refl
machines_before j past e script keeps rules.Measure low = keeps.each rules.Measure refl
machines_before j past e script keeps r low = absurd (omega (arith, low))

pub age_fails : (j : JobView) (past : List Entry) (e : Entry) → ScriptRule j past e → KeepsMachines j past e → (AgeRule j past e → ⊥)
    → FailsHere j past (Some e) rules.Age
age_fails j past e script keeps fails = record { earlier = machines_before j past e script keeps; fails = fails }

pub kick_fails : (j : JobView) (past : List Entry) (e : Entry) → ScriptRule j past e → KeepsMachines j past e → AgeRule j past e
    → (KickRule j past e → ⊥) → FailsHere j past (Some e) rules.Kick
kick_fails j past e script keeps age fails = record { earlier = before; fails = fails }
  where
    before : (r : Rule) → rank r < 10 → RuleSays j r past (Some e)
    before rules.Age low = age
    before rules.Kick low = absurd (omega (arith, low))
    before rules.Script low = script
    before rules.Refusal low = keeps.each rules.Refusal refl
    before rules.Flat low = keeps.each rules.Flat refl
    before rules.Fits low = keeps.each rules.Fits refl
    before rules.Stale low = keeps.each rules.Stale refl
    before rules.Evict low = keeps.each rules.Evict refl
    before rules.Fresh low = keeps.each rules.Fresh refl
    before rules.Sealed low = keeps.each rules.Sealed refl
    before rules.Measure low = keeps.each rules.Measure refl

-- ---- a trace that goes on

-- with an entry that keeps each rule the trace goes on
pub goes_on_more : (j : JobView) (t : State) (past : List Entry) (e : Entry) (records : List Made) → GoesOn j past → ScriptRule j past e
    → StandsWithAllRules (machine_of j) t (e ∷ past) records → AgeRule j past e → KickRule j past e → GoesOn j (e ∷ past)
goes_on_more j t past e records h script stands age kick =
    record {
      script = (script, h.script);
      refusal = (tt, (k.each rules.Refusal refl, h.refusal.1));
      flat = (tt, (k.each rules.Flat refl, h.flat.1));
      fits = ((tt, last_place NoPageTwice (e ∷ past) keeps.fits.pages), (k.each rules.Fits refl, h.fits.1));
      stale = ((tt, last_place NoneStale (e ∷ past) keeps.stale.places), (k.each rules.Stale refl, h.stale.1));
      evict = (tt, (k.each rules.Evict refl, h.evict.1));
      fresh = (tt, (k.each rules.Fresh refl, h.fresh.1));
      sealed = (tt, (k.each rules.Sealed refl, h.sealed.1));
      measure = (tt, (k.each rules.Measure refl, h.measure.1));
      age = (tt, (age, h.age.1));
      kick = (tt, (kick, h.kick.1));
    }
  where
    k : KeepsMachines j past e
    k = last_kept j (length j.scripts) t past e records stands

    keeps : KeepsRules (machine_of j) (e ∷ past)
    keeps = own_rules (machine_of j) t (e ∷ past) records stands

-- ---- a whole trace

-- each rule held at each entry so far
pub all_before : (j : JobView) (past : List Entry) → GoesOn j past → (r : Rule) → Before (RuleSays j r) past
all_before j past h rules.Script = h.script
all_before j past h rules.Refusal = h.refusal.1
all_before j past h rules.Flat = h.flat.1
all_before j past h rules.Fits = h.fits.1
all_before j past h rules.Stale = h.stale.1
all_before j past h rules.Evict = h.evict.1
all_before j past h rules.Fresh = h.fresh.1
all_before j past h rules.Sealed = h.sealed.1
all_before j past h rules.Measure = h.measure.1
all_before j past h rules.Age = h.age.1
all_before j past h rules.Kick = h.kick.1

-- one that isn't ended fails first at its end
pub not_ended : (j : JobView) (past : List Entry) (place : ℕ) → GoesOn j past → (IsEnded j past → ⊥) → length past ≡ place
    → FailsFirst j past place rules.Script
not_ended j past place h fails placed = record {
  past = past;
  next = None;
  is_place = refl;
  placed = placed;
  before = all_before j past h;
  here = script_fails j past None fails;
}

-- where an entry breaks a rule first, the whole trace does
pub fails_at : (j : JobView) (past : List Entry) (e : Entry) (later : List Entry) (whole : List Entry) (place : ℕ) (rule : Rule)
    → GoesOn j past → whole ≡ later ++ e ∷ past → length past ≡ place → FailsHere j past (Some e) rule → FailsFirst j whole place rule
fails_at j past e later whole place rule h is placed here = record {
  past = past;
  next = Some e;
  is_place = (later, is);
  placed = placed;
  before = all_before j past h;
  here = here;
}
