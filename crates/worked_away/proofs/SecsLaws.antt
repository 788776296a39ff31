-- What the check does not find by itself of the SECS that goes out and comes back.
use Rattle.std.proofs.Common.{◌≡◌, ℕ, Some, None, refl, arith, true, false, zero, suc, sym}
use Rattle.std.proofs.lemmas.Bool.{false≢true}
use lib.Count.{ones}
use Rattle.sgx_types.specs.Counts.{any_below, count_below, least_below}
use Rattle.sgx_types.specs.declared.names.Actor.TheVariants.{Reclaimer}
use Rattle.sgx_types.specs.declared.names.Page.{Page}
use Rattle.sgx_types.specs.Pages.{page_at, secs_page}
use Rattle.sgx_rules.specs.Frames.{content, is_child}
use Rattle.sgx_rules.specs.Rules.{Along, EvictRule, RefusalRule}
use Rattle.sgx_rules.specs.Starts.{Start}
use Rattle.sgx_types.proofs.Truths.{apart}
use Rattle.worked_away.specs.Machine.{cpu, making, slot_at}
use Rattle.worked_away.specs.SecsAway.{child_comes, drained, goes_with_children, pages_out, secs_out}
use Rattle.worked_away.proofs.ReadyLaws.{ends_out, is_back, ready_drained, ready_table}

abbrev out_of : ℕ → ℕ → ℕ → Start
out_of index version place = record {
  at = slot_at 0 index;
  slot = record { va = 0; index = index };
  version = version;
  loads = None;
  place = place;
  actor = Reclaimer;
}

abbrev in_of : Page → ℕ → ℕ → ℕ → Start
in_of page index version place = record {
  at = slot_at 0 index;
  slot = record { va = 0; index = index };
  version = version;
  loads = Some page;
  place = place;
  actor = cpu;
}

drained_table : Along (RefusalRule making) drained
unfolding any_below count_below least_below ones
drained_table = ((refl, refl), ((refl, refl), ((refl, refl), ((refl, refl), ((refl, refl), (refl, ready_table))))))

pages_table : Along (RefusalRule making) pages_out
unfolding any_below count_below least_below ones
pages_table = (
  (refl, ends_out _ 4 (page_at 1 2) 3 (out_of 2 3 18) refl refl refl),
  (
    (refl, (3, refl)),
    (
      (refl, ends_out _ 3 (page_at 1 1) 2 (out_of 1 2 16) refl refl refl),
      (
        (refl, (2, refl)),
        (
          (refl, ends_out _ 2 (page_at 1 0) 1 (out_of 0 1 14) refl refl refl),
          ((refl, (1, refl)), drained_table),
        ),
      ),
    ),
  ),
)

secs_table : Along (RefusalRule making) secs_out
unfolding any_below count_below least_below ones
secs_table = ((refl, ends_out _ 1 (secs_page 1) 4 (out_of 3 4 20) refl refl refl), ((refl, (4, refl)), pages_table))

pub child_comes_table : Along (RefusalRule making) child_comes
unfolding any_below count_below least_below ones
child_comes_table = (
  refl,
  (
    (refl, refl),
    (
      (refl, is_back _ 1 (secs_page 1) 4 (in_of (secs_page 1) 3 4 24) refl refl),
      ((refl, refl), (refl, (refl, secs_table))),
    ),
  ),
)

-- no page of the enclave is left
none : (m : ℕ) → is_child (content pages_out m) 1 ≡ false
none zero = refl
none (suc zero) = refl
none (suc (suc zero)) = refl
none (suc (suc (suc zero))) = refl
none (suc (suc (suc (suc zero)))) = refl
none (suc (suc (suc (suc (suc m))))) =
    rw (
      apart 4 (suc (suc (suc (suc (suc m))))) (λ e. omega (arith, e)),
      apart 3 (suc (suc (suc (suc (suc m))))) (λ e. omega (arith, e)),
      apart 2 (suc (suc (suc (suc (suc m))))) (λ e. omega (arith, e)),
      apart 1 (suc (suc (suc (suc (suc m))))) (λ e. omega (arith, e)),
      apart 0 (suc (suc (suc (suc (suc m))))) (λ e. omega (arith, e)),
    ) refl

-- while pages are there their SECS stays
pub children_stay : ¬ Along EvictRule goes_with_children
children_stay h = let there : true ≡ false = h.0 2 in false≢true (sym there)

pub child_comes_drained : Along EvictRule child_comes
unfolding count_below
child_comes_drained = (
  tt,
  (
    tt,
    (
      tt,
      (
        tt,
        (
          tt,
          (
            tt,
            (
              record { start = out_of 3 4 20; opened = refl; writes = refl; told = refl },
              (
                (λ m. none m),
                (
                  record { start = out_of 2 3 18; opened = refl; writes = refl; told = refl },
                  (
                    refl,
                    (
                      record { start = out_of 1 2 16; opened = refl; writes = refl; told = refl },
                      (
                        refl,
                        (
                          record { start = out_of 0 1 14; opened = refl; writes = refl; told = refl },
                          (
                            refl,
                            (tt, (tt, (tt, (tt, (tt, (tt, ready_drained)))))),
                          ),
                        ),
                      ),
                    ),
                  ),
                ),
              ),
            ),
          ),
        ),
      ),
    ),
  ),
)
