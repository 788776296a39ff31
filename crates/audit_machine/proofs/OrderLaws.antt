-- One of the processor's rules fails at an entry, and those before it hold there.
use Rattle.std.proofs.Common.{◌≡◌, ◌<◌, true, List, Some, arith, refl}
use Rattle.sgx_rules.specs.declared.entries.Entry.{Entry}
use Rattle.sgx_rules.specs.Fresh.{FreshRule}
use Rattle.sgx_rules.specs.Rules.{EvictRule, FlatRule, RefusalRule}
use Rattle.seal_record.specs.Sealing.{SealedRule}
use Rattle.measure_log.specs.Rule.{MeasureRule}
use Rattle.job_grammar.specs.Jobs.{JobView}
use Rattle.script_rules.specs.Machines.{machine_of}
use Rattle.history_rules.specs.declared.rules.Rule.{Rule}
use Rattle.history_rules.specs.declared.rules.Rule.TheVariants as rules
use Rattle.history_rules.specs.Histories.{RuleSays, rank}
use Rattle.history_rules.specs.inner.Histories.{is_machines}
use Rattle.history_machine.specs.Histories.{FailsAmong}

module _ (j : JobView) (past : List Entry) (e : Entry) where
  pub refusal_fails : (RefusalRule (machine_of j) past e → ⊥) → FailsAmong is_machines j past (Some e) rules.Refusal
  refusal_fails fails = record { own = refl; earlier = before; fails = fails }
    where
      before : (r : Rule) → is_machines r ≡ true → rank r < 1 → RuleSays j r past (Some e)
      before rules.Script own low = absurd cc
      before r own low = absurd (omega (arith, low))

  module _ (refusal : RuleSays j rules.Refusal past (Some e)) where
    pub flat_fails : (FlatRule past e → ⊥) → FailsAmong is_machines j past (Some e) rules.Flat
    flat_fails fails = record { own = refl; earlier = before; fails = fails }
      where
        before : (r : Rule) → is_machines r ≡ true → rank r < 2 → RuleSays j r past (Some e)
        before rules.Script own low = absurd cc
        before rules.Refusal own low = refusal
        before r own low = absurd (omega (arith, low))

    module _ (flat : RuleSays j rules.Flat past (Some e)) (fits : RuleSays j rules.Fits past (Some e))
        (stale : RuleSays j rules.Stale past (Some e)) where
      pub evict_fails : (EvictRule past e → ⊥) → FailsAmong is_machines j past (Some e) rules.Evict
      evict_fails fails = record { own = refl; earlier = before; fails = fails }
        where
          before : (r : Rule) → is_machines r ≡ true → rank r < 5 → RuleSays j r past (Some e)
          before rules.Script own low = absurd cc
          before rules.Refusal own low = refusal
          before rules.Flat own low = flat
          before rules.Fits own low = fits
          before rules.Stale own low = stale
          before r own low = absurd (omega (arith, low))

      module _ (evict : RuleSays j rules.Evict past (Some e)) where
        pub fresh_fails : (FreshRule j.start_version past e → ⊥) → FailsAmong is_machines j past (Some e) rules.Fresh
        fresh_fails fails = record { own = refl; earlier = before; fails = fails }
          where
            before : (r : Rule) → is_machines r ≡ true → rank r < 6 → RuleSays j r past (Some e)
            before rules.Script own low = absurd cc
            before rules.Refusal own low = refusal
            before rules.Flat own low = flat
            before rules.Fits own low = fits
            before rules.Stale own low = stale
            before rules.Evict own low = evict
            before r own low = absurd (omega (arith, low))

        module _ (fresh : RuleSays j rules.Fresh past (Some e)) where
          pub sealed_fails : (SealedRule j.key past e → ⊥) → FailsAmong is_machines j past (Some e) rules.Sealed
          sealed_fails fails = record { own = refl; earlier = before; fails = fails }
            where
              before : (r : Rule) → is_machines r ≡ true → rank r < 7 → RuleSays j r past (Some e)
              before rules.Script own low = absurd cc
              before rules.Refusal own low = refusal
              before rules.Flat own low = flat
              before rules.Fits own low = fits
              before rules.Stale own low = stale
              before rules.Evict own low = evict
              before rules.Fresh own low = fresh
              before r own low = absurd (omega (arith, low))

          pub measure_fails : RuleSays j rules.Sealed past (Some e) → (MeasureRule past e → ⊥)
              → FailsAmong is_machines j past (Some e) rules.Measure
          measure_fails sealed fails = record { own = refl; earlier = before; fails = fails }
            where
              before : (r : Rule) → is_machines r ≡ true → rank r < 8 → RuleSays j r past (Some e)
              before rules.Script own low = absurd cc
              before rules.Refusal own low = refusal
              before rules.Flat own low = flat
              before rules.Fits own low = fits
              before rules.Stale own low = stale
              before rules.Evict own low = evict
              before rules.Fresh own low = fresh
              before rules.Sealed own low = sealed
              before r own low = absurd (omega (arith, low))
