-- The processor's rules among all.
use Rattle.std.proofs.Common.{◌≡◌, ◌<◌, ◌⊎◌, inl, inr, ℕ, true, false, refl, sym, subst, arith, List, Some}
use Rattle.sgx_types.proofs.Truths.{tested}
use Rattle.sgx_rules.specs.declared.entries.Entry.{Entry}
use Rattle.job_grammar.specs.Jobs.{JobView}
use Rattle.driver_rules.specs.Scripts.{ScriptRule}
use Rattle.history_rules.specs.declared.rules.Rule.{Rule}
use Rattle.history_rules.specs.declared.rules.Rule.TheVariants as rules
use Rattle.history_rules.specs.Histories.{FailsHere, History, Keeps, RuleSays, rank}
use Rattle.history_rules.specs.inner.Histories.{is_machines}
use Rattle.history_rules.proofs.HistoryLaws.{said_at}
use Rattle.history_machine.specs.Histories.{FailsAmong, FailsFirstAmong, MachineHistory}

pub machines_part : (j : JobView) (past : List Entry) → History j past → MachineHistory j past
machines_part j past h = record {
  refusal = h.refusal;
  flat = h.flat;
  fits = h.fits;
  stale = h.stale;
  evict = h.evict;
  fresh = h.fresh;
  sealed = h.sealed;
  measure = h.measure;
}

keeps_own : (j : JobView) (past : List Entry) → MachineHistory j past → (rule : Rule) → is_machines rule ≡ true → Keeps j rule past
keeps_own j past h rules.Refusal own = h.refusal
keeps_own j past h rules.Flat own = h.flat
keeps_own j past h rules.Fits own = h.fits
keeps_own j past h rules.Stale own = h.stale
keeps_own j past h rules.Evict own = h.evict
keeps_own j past h rules.Fresh own = h.fresh
keeps_own j past h rules.Sealed own = h.sealed
keeps_own j past h rules.Measure own = h.measure
keeps_own j past h rule own = absurd cc

-- ---- a trace that fails somewhere

pub fails_nowhere : (j : JobView) (whole : List Entry) (place : ℕ) (rule : Rule) → FailsFirstAmong is_machines j whole place rule
    → MachineHistory j whole → ⊥
fails_nowhere j whole place rule fault h =
    fault.here.fails (said_at (RuleSays j rule) whole fault.past fault.next fault.is_place (keeps_own j whole h rule fault.here.own))

-- ---- behind Script the first of the processor's rules is the first of all

-- before one of the processor's rules only Script is none of them
earlier_own : (r rule : Rule) → is_machines rule ≡ true → rank r < rank rule → is_machines r ≡ false → r ≡ rules.Script
earlier_own rules.Script rule own low other = refl
earlier_own rules.Age rules.Script own low other = absurd cc
earlier_own rules.Age rules.Age own low other = absurd cc
earlier_own rules.Age rules.Kick own low other = absurd cc
earlier_own rules.Age rule own low other = absurd (omega (arith, low))
earlier_own rules.Kick rules.Script own low other = absurd cc
earlier_own rules.Kick rules.Age own low other = absurd cc
earlier_own rules.Kick rules.Kick own low other = absurd cc
earlier_own rules.Kick rule own low other = absurd (omega (arith, low))
earlier_own r rule own low other = absurd cc

pub first_of_all : (j : JobView) (past : List Entry) (e : Entry) (rule : Rule) → ScriptRule j past e
    → FailsAmong is_machines j past (Some e) rule → FailsHere j past (Some e) rule
first_of_all j past e rule script h = record { earlier = earlier; fails = h.fails }
  where
    earlier : (r : Rule) → rank r < rank rule → RuleSays j r past (Some e)
    earlier r low = by_test (tested (is_machines r))
      where
        by_test : (is_machines r ≡ true) ⊎ (is_machines r ≡ false) → RuleSays j r past (Some e)
        by_test (inl own) = h.earlier r own low
        by_test (inr other) =
            subst (λ x. RuleSays j x past (Some e)) (sym (earlier_own r rule h.own low other)) script
