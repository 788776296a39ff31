-- The bytes of the first slots of a page, one slot more.
use Rattle.std.proofs.Common.{arith, ◌≡◌, ◌∙◌, ◌++◌, ◌∷◌, [], ◌+◌, ◌*◌, ◌<◌, ◌^◌, ℕ, List, Option, ap, length, refl, subst, sym, suc, zero}
use Rattle.std.specs.List.{All, flat_map}
use Rattle.std.specs.Int.{w64, to_le_bytes}
use Rattle.std.proofs.lemmas.List.FromFn.{length-map-range_with_len, map-range_with_len_more}
use Rattle.std.proofs.lemmas.Grind.{flat_map-append}
use Rattle.std.proofs.lemmas.List.{append-nil, length-append}
use Rattle.std.proofs.lemmas.List.Elements.{All-append}
use Rattle.sgx_types.specs.Layouts.{bytes_of}
use Rattle.version_array.specs.declared.va_page.SlotState.{SlotState}
use Rattle.version_array.specs.inner.Slots.{version_in}
use Rattle.page_bytes.specs.inner.Bytes.{first_slots, place}

slots_more : (pages : List (Option (List SlotState))) (n index : ℕ)
    → first_slots pages n (index + 1) ≡ first_slots pages n index ++ version_in pages (place n index) ∷ []
slots_more pages n index = map-range_with_len_more (λ i. version_in pages (place n i)) 0 index index (omega arith)

pub bytes_more : (pages : List (Option (List SlotState))) (n index : ℕ)
    → bytes_of (first_slots pages n (index + 1)) ≡ bytes_of (first_slots pages n index)
    ++ to_le_bytes w64 (version_in pages (place n index))
bytes_more pages n index =
    ap bytes_of (slots_more pages n index)
    ∙ flat_map-append (to_le_bytes w64) (first_slots pages n index) (version_in pages (place n index) ∷ [])
    ∙ ap (λ b. bytes_of (first_slots pages n index) ++ b) (append-nil (to_le_bytes w64 (version_in pages (place n index))))

pub fits_more : (pages : List (Option (List SlotState))) (n index : ℕ) → All (λ version. version < 2 ^ 64) (first_slots pages n index)
    → version_in pages (place n index) < 2 ^ 64 → All (λ version. version < 2 ^ 64) (first_slots pages n (index + 1))
fits_more pages n index before this =
    subst (All (λ version. version < 2 ^ 64)) (sym (slots_more pages n index))
    (All-append (λ version. version < 2 ^ 64) (first_slots pages n index) (version_in pages (place n index) ∷ []) before (alone this))
  where
    alone : version_in pages (place n index) < 2 ^ 64 → All (λ version. version < 2 ^ 64) (version_in pages (place n index) ∷ [])
    alone small zero d low = small
    alone small (suc k) d low = absurd (omega (arith, low))

words_bytes : (words : List ℕ) → length (flat_map (to_le_bytes w64) words) ≡ 8 * length words
words_bytes [] = refl
words_bytes (word ∷ words) =
    omega (arith, length-append (to_le_bytes w64 word) (flat_map (to_le_bytes w64) words), words_bytes words)

pub length-first_bytes : (pages : List (Option (List SlotState))) (n index : ℕ) → length (bytes_of (first_slots pages n index)) ≡ 8 * index
length-first_bytes pages n index =
    words_bytes (first_slots pages n index)
    ∙ ap (λ count. 8 * count) (length-map-range_with_len (λ i. version_in pages (place n i)) 0 index)
