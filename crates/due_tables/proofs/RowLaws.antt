-- The table has a place for exactly the pages that have one in the driver's tables.
use Rattle.std.proofs.Common.{◌≡◌, ℕ, zero, suc, ◌==◌, ◌<◌, ◌≤◌, ◌-◌, Bool, true, false, List, Option}
use Rattle.std.proofs.Common.{get_or, length, map, nat_lt, slice_index, refl, sym, ap, subst, ◌∙◌, arith}
use Rattle.std.proofs.lemmas.Bool.{eqb-true, false≢true, ltb-true, lt-ltb}
use Rattle.std.proofs.lemmas.List.{length-map}
use Rattle.sgx_types.specs.declared.names.Page.{Page}
use Rattle.sgx_types.specs.declared.names.TheConstants.{SECS_NUMBER}
use Rattle.driver_list.specs.inner.Places.{IsPlaced, PageCounts}
use Rattle.due_tables.specs.declared.tcs_turns.TcsTurn.{TcsTurn}
use Rattle.due_tables.specs.inner.TcsTurns.{has_place, rows}

not_zero : (e : ℕ) → (e == 0) ≡ false → 1 ≤ e
not_zero zero h = absurd (false≢true (sym h))
not_zero (suc e) h = omega arith

row_behind : (counts : PageCounts) (e : ℕ) → 1 ≤ e → get_or (rows counts) e 0 ≡ get_or counts.own (e - 1) 0
row_behind counts zero some = absurd (omega (arith, some))
row_behind counts (suc e) some = ap (λ n. get_or counts.own n 0) {x = e} {y = suc e - 1} (omega arith)

module _ (turns : List (List (Option TcsTurn))) (counts : PageCounts) (g : Page) (same : map length turns ≡ rows counts) where
  long : length turns ≡ length (rows counts)
  long = sym (length-map turns length) ∙ ap length same

  pub placed_row : has_place turns g ≡ true → IsPlaced counts g
  placed_row h = by_name (g.enclave == 0) (g.number == SECS_NUMBER) refl refl
    where
      by_name : (va last : Bool) → (g.enclave == 0) ≡ va → (g.number == SECS_NUMBER) ≡ last → IsPlaced counts g
      by_name true last v l = record {
        array = λ is. omega (arith, low, ap (λ e. get_or (rows counts) e 0) (eqb-true g.enclave 0 v));
        secs = λ is. absurd (false≢true (sym (rw v refl) ∙ is));
        own = λ is. absurd (false≢true (sym (rw v refl) ∙ is));
      }
        where
          low : g.number < get_or (rows counts) g.enclave 0
          low = subst (λ ks. g.number < get_or ks g.enclave 0) same
              (ltb-true g.number (slice_index (map length turns) g.enclave) (sym (rw v refl) ∙ h))
      by_name false true v l = record {
        array = λ is. absurd (false≢true (sym v ∙ is));
        secs = λ is. omega (arith, ltb-true g.enclave (length turns) (sym (rw (v, l) refl) ∙ h), long);
        own = λ is. absurd (false≢true (sym (rw (v, l) refl) ∙ is));
      }
      by_name false false v l = record {
        array = λ is. absurd (false≢true (sym v ∙ is));
        secs = λ is. absurd (false≢true (sym (rw (v, l) refl) ∙ is));
        own = λ is. omega (arith, low, row_behind counts g.enclave (not_zero g.enclave v));
      }
        where
          low : g.number < get_or (rows counts) g.enclave 0
          low = subst (λ ks. g.number < get_or ks g.enclave 0) same
              (ltb-true g.number (slice_index (map length turns) g.enclave) (sym (rw (v, l) refl) ∙ h))

  pub row_placed : IsPlaced counts g → has_place turns g ≡ true
  row_placed placed = by_name (g.enclave == 0) (g.number == SECS_NUMBER) refl refl
    where
      by_row : g.number < get_or (rows counts) g.enclave 0 → nat_lt g.number (slice_index (map length turns) g.enclave) ≡ true
      by_row low =
          lt-ltb g.number (slice_index (map length turns) g.enclave)
          (subst (λ ks. g.number < get_or ks g.enclave 0) (sym same) low)

      by_name : (va last : Bool) → (g.enclave == 0) ≡ va → (g.number == SECS_NUMBER) ≡ last → has_place turns g ≡ true
      by_name true last v l =
          rw v refl
          ∙ by_row (omega (arith, placed.array v, ap (λ e. get_or (rows counts) e 0) (eqb-true g.enclave 0 v)))
      by_name false true v l = rw (v, l) refl ∙ lt-ltb g.enclave (length turns) (omega (arith, placed.secs (rw (v, l) refl), long))
      by_name false false v l =
          rw (v, l) refl
          ∙ by_row (omega (arith, placed.own (rw (v, l) refl), row_behind counts g.enclave (not_zero g.enclave v)))
