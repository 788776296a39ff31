-- A new gate keeps the rule.
use Rattle.std.proofs.Common.{◌≡◌, ℕ, zero, suc, ◌+◌, ◌<◌, List, [], ◌∷◌, length, replicate, get_or, true≢false}
use Rattle.std.proofs.Common.{refl, sym, ap, ◌∙◌, subst, arith, length-set, get_or-set_same, get_or-set_other}
use Rattle.std.proofs.lemmas.List.{length-replicate}
use mathlib.Core.Option.{some, some-injective, some-ne-none}
use lib.ListN.{get_elem?}
use Rattle.atomic_table.specs.Table.{opening}
use Rattle.frame_gate.specs.declared.view.View.{View}
use Rattle.frame_gate.specs.declared.view.Written.{Written}
use Rattle.frame_gate.specs.inner.Views.{start, first_view, first_words, untouched, written_of}
use Rattle.frame_gate.specs.inner.Rule.{AreCounted, IsMarked, RoleFits, AreFramesKept}
use Rattle.frame_gate.proofs.ProcessorLaws.{all_past_drained}

zeros : (n i : ℕ) → get_or (replicate {A = ℕ} n 0) i 0 ≡ 0
zeros zero i = refl
zeros (suc n) zero = refl
zeros (suc n) (suc i) = zeros n i

all_free : (n i : ℕ) → written_of (replicate n untouched) i ≡ untouched
all_free zero i = refl
all_free (suc n) zero = refl
all_free (suc n) (suc i) = all_free n i

free_marked : (epoch n i : ℕ)
    → IsMarked epoch (written_of (replicate n untouched) i).word (written_of (replicate n untouched) i).blocked
free_marked epoch n i = subst (λ (z : Written). IsMarked epoch z.word z.blocked) (sym (all_free n i)) (omega arith)

module _ (count : ℕ) where
  first_fits : (j : ℕ) (v : View) → get_elem? (first_view count ∷ []) j ≡ some v
      → RoleFits count 0 (start 0) (replicate count untouched) 0 j v.role
  first_fits zero v e = subst (λ (z : View). RoleFits count 0 (start 0) (replicate count untouched) 0 0 z.role) (some-injective _ _ e)
      (refl, refl, refl)
  first_fits (suc j) v e = absurd (some-ne-none v (sym e))

  module _ (ws : List ℕ) (is : ws ≡ first_words count) where
    zero_at : (i : ℕ) → 0 < i → get_or ws i 0 ≡ 0
    zero_at i h = ap (λ (l : List ℕ). get_or l i 0) is
        ∙ (get_or-set_other (replicate (3 + count) 0) 0 i 4294967296 0 (λ q. omega arith) ∙ zeros (3 + count) i)

    long : length ws ≡ 3 + count
    long = ap length is ∙ (length-set (replicate (3 + count) 0) 0 4294967296 ∙ length-replicate (3 + count) 0)

    first_word : get_or ws 0 0 ≡ 4294967296
    first_word =
        let some : length (replicate {A = ℕ} (3 + count) 0) ≡ 3 + count = length-replicate (3 + count) 0 in
        ap (λ (l : List ℕ). get_or l 0 0) is ∙ get_or-set_same (replicate (3 + count) 0) 0 4294967296 0 (omega arith)

    first_counted : AreCounted (start 0) 0 0 ws (first_view count ∷ [])
    first_counted = record {
      wide = let a = long in omega arith;
      epoch = refl;
      word = first_word;
      inside = let a = zero_at 2 (omega arith) in omega arith;
      older = λ z. absurd (true≢false z);
      set_back = λ _. (refl, zero_at 1 (omega arith));
      empty = λ _. refl;
      seats = refl;
      few = omega arith;
      made = omega arith;
      limited = omega arith;
    }

    pub opens : AreFramesKept count (opening ws [] (first_view count))
    opens = record {
      pager = 0;
      ledger = start 0;
      frames = replicate count untouched;
      before = 0;
      entries = 0;
      there = (first_view count, refl, refl);
      counted = first_counted;
      written = record {
        all = length-replicate count untouched;
        wide = long;
        word = λ f h. zero_at (3 + f) (omega arith) ∙ sym (ap (λ (z : Written). z.word) (all_free count f));
        marked = λ f h. free_marked 1 count f;
      };
      each = first_fits;
      drained = all_past_drained count 0 (start 0) (replicate count untouched) 0 0 ws (first_view count ∷ []) first_counted first_fits;
    }
