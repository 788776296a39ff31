-- Where each page came back no processor was ended.
use Rattle.std.proofs.Common.{◌≡◌, ℕ, ◌<◌, Bool, true, false, if◌then◌else◌, List, [], ◌∷◌, length, refl, ap}
use Rattle.std.proofs.Common.{◌∙◌}
use Rattle.sgx_rules.specs.declared.entries.Entry.{Entry}
use Rattle.sgx_rules.specs.Processors.{is_by}
use Rattle.sgx_types.proofs.Truths.{neither}
use Rattle.job_grammar.specs.Jobs.{JobView}
use Rattle.driver_rules.specs.Scripts.{IsDone, IsEnded}
use Rattle.driver_rules.specs.Stops.{has_bus, has_loss, is_bus, is_spent}

none_ended : (past : List Entry) (p : ℕ) → has_loss past ≡ false → has_bus past p ≡ false
none_ended [] p back = refl
none_ended (e ∷ past) p back = by_own (is_by p e.actor) (none_ended past p both.1)
  where
    both : (is_bus e.event ≡ false) × (has_loss past ≡ false)
    both = neither (is_bus e.event) (has_loss past) back

    by_own : (own : Bool) → has_bus past p ≡ false
        → (if own then (if is_bus e.event then true else has_bus past p) else has_bus past p) ≡ false
    by_own true before = ap (λ b. if b then true else has_bus past p) both.0 ∙ before
    by_own false before = before

pub all_done : (j : JobView) (past : List Entry) → IsEnded j past → has_loss past ≡ false → is_spent past ≡ false
    → (p : ℕ) → p < length j.scripts → IsDone j past p
all_done j past ended back going p low = (ended going).cpus p low (none_ended past p back)
