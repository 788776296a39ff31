-- The records that are kept, by the map that has them.
use Rattle.std.proofs.Common.{◌≡◌, Bool, true, false, cond, List, [], ◌∷◌, map, Option, Some, option_map, refl, sym, ap}
use Rattle.std.proofs.Common.{◌∙◌}
use Rattle.std.specs.Map.{lookup}
use Rattle.sgx_types.specs.declared.names.Page.{Page}
use Rattle.sgx_types.specs.Pages.{same_page}
use Rattle.seal_record.specs.declared.unseal.UnsealedWork.{UnsealedWork}
use Rattle.audit_machine.specs.inner.Kept.{Kept, kept_of, records_of}
use Rattle.audit_machine.specs.inner.Views.{pair_of}

-- the record of a page is that of the map
pub record_at : (works : List (Page × UnsealedWork)) (g : Page)
    → records_of (map pair_of works) g ≡ option_map kept_of (lookup (same_page g) works)
record_at [] g = refl
record_at (e ∷ works) g = by_test (same_page g e.0) (record_at works g)
  where
    by_test : (b : Bool) → records_of (map pair_of works) g ≡ option_map kept_of (lookup (same_page g) works)
        → cond b (Some (e.1.version, e.1.rec)) (records_of (map pair_of works) g)
        ≡ option_map kept_of (cond b (Some e.1) (lookup (same_page g) works))
    by_test true rest = refl
    by_test false rest = rest

kept_if : (b : Bool) (new had : Option UnsealedWork)
    → option_map kept_of (cond b new had) ≡ cond b (option_map kept_of new) (option_map kept_of had)
kept_if true new had = refl
kept_if false new had = refl

-- where the work of one page was written or taken out, its record was
pub record_after : (old new : List (Page × UnsealedWork)) (page g : Page) (pairs : List (Page × Kept)) (work : Option UnsealedWork)
    → map pair_of old ≡ pairs → lookup (same_page g) new ≡ cond (same_page page g) work (lookup (same_page g) old)
    → records_of (map pair_of new) g ≡ cond (same_page page g) (option_map kept_of work) (records_of pairs g)
record_after old new page g pairs work view h =
    record_at new g ∙ ap (option_map kept_of) h
    ∙ kept_if (same_page page g) work (lookup (same_page g) old)
    ∙ ap (cond (same_page page g) (option_map kept_of work)) (sym (record_at old g) ∙ ap (λ p. records_of p g) view)
