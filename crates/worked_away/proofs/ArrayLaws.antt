-- What the check does not find by itself of the version array page that goes out and comes back.
use Rattle.std.proofs.Common.{ℕ, Some, None, refl}
use lib.Count.{ones}
use Rattle.sgx_types.specs.Counts.{any_below, count_below, least_below}
use Rattle.sgx_types.specs.declared.names.Actor.TheVariants.{Reclaimer}
use Rattle.sgx_types.specs.declared.names.Page.{Page}
use Rattle.sgx_types.specs.Pages.{page_at, va_page}
use Rattle.sgx_rules.specs.Rules.{Along, EvictRule, RefusalRule}
use Rattle.sgx_rules.specs.Starts.{Start}
use Rattle.worked_away.specs.Machine.{cpu, making, slot_at}
use Rattle.worked_away.specs.ArraysAway.{array_in, array_kept_out, array_out, page_in, page_out}
use Rattle.worked_away.proofs.ReadyLaws.{ends_out, is_back, ready_drained, ready_table}

-- a start in a frame that holds a version array page
abbrev out_of : ℕ → ℕ → ℕ → ℕ → Start
out_of n va version place = record {
  at = slot_at n 0;
  slot = record { va = va; index = 0 };
  version = version;
  loads = None;
  place = place;
  actor = Reclaimer;
}

abbrev in_of : ℕ → ℕ → Page → ℕ → ℕ → Start
in_of n va page version place = record {
  at = slot_at n 0;
  slot = record { va = va; index = 0 };
  version = version;
  loads = Some page;
  place = place;
  actor = cpu;
}

page_out_table : Along (RefusalRule making) page_out
unfolding any_below count_below least_below ones
page_out_table = (
  (refl, ends_out _ 4 (page_at 1 2) 1 (out_of 5 1 1 12) refl refl refl),
  ((refl, (1, refl)), ((refl, refl), ((refl, refl), ((refl, refl), ((refl, refl), ready_table))))),
)

array_out_table : Along (RefusalRule making) array_out
unfolding any_below count_below least_below ones
array_out_table = (
  (refl, ends_out _ 5 (va_page 1) 2 (out_of 0 0 2 15) refl refl refl),
  ((refl, (2, refl)), (refl, page_out_table)),
)

array_in_table : Along (RefusalRule making) array_in
unfolding any_below count_below least_below ones
array_in_table = (
  (refl, is_back _ 6 (va_page 1) 2 (in_of 0 0 (va_page 1) 2 18) refl refl),
  ((refl, refl), (refl, array_out_table)),
)

page_in_table : Along (RefusalRule making) page_in
unfolding any_below count_below least_below ones
page_in_table = (
  (refl, is_back _ 4 (page_at 1 2) 1 (in_of 6 1 (page_at 1 2) 1 20) refl refl),
  ((refl, refl), array_in_table),
)

pub array_kept_out_table : Along (RefusalRule making) array_kept_out
unfolding any_below count_below least_below ones
array_kept_out_table = (
  record {
    page = va_page 1;
    ends = record { start = in_of 0 0 (va_page 1) 3 24; opened = refl; loads = refl };
    unfit = λ same. cc;
  },
  (
    (refl, refl),
    (
      (refl, ends_out _ 6 (va_page 1) 3 (out_of 0 0 3 22) refl refl refl),
      ((refl, (3, refl)), page_in_table),
    ),
  ),
)

pub array_kept_out_drained : Along EvictRule array_kept_out
unfolding count_below
array_kept_out_drained = (
  tt,
  (
    tt,
    (
      record { start = out_of 0 0 3 22; opened = refl; writes = refl; told = refl },
      (
        tt,
        (
          tt,
          (
            tt,
            (
              tt,
              (
                tt,
                (
                  tt,
                  (
                    record { start = out_of 0 0 2 15; opened = refl; writes = refl; told = refl },
                    (
                      tt,
                      (
                        tt,
                        (
                          record { start = out_of 5 1 1 12; opened = refl; writes = refl; told = refl },
                          (refl, (tt, (tt, (tt, (tt, ready_drained))))),
                        ),
                      ),
                    ),
                  ),
                ),
              ),
            ),
          ),
        ),
      ),
    ),
  ),
)
