-- The lines of a text that is ASCII are UTF-8.
use Rattle.std.proofs.Common.{◌≡◌, ℕ, zero, suc, ◌<◌, Bool, true, false, cond, eqb, List, [], ◌∷◌, length, get_or, arith}
use Rattle.std.specs.List.{AllByRecursion, onto_first, slice_split}
use Rattle.std.specs.Prelude.{IsAscii}
use Rattle.std.specs.Str.{is_utf8}
use Rattle.std.proofs.lemmas.Str.{IsUtf8-from_ascii, is_utf8-from_IsUtf8}
use Rattle.std.proofs.lemmas.Str.Ascii.{IsAscii-nil, IsAscii-cons}
use Rattle.job_lines.specs.Words.{without_return}

-- a byte more before the pieces
put_first : (t : Bool) (b : ℕ) (pieces : List (List ℕ)) → b < 128 → AllByRecursion IsAscii pieces
    → AllByRecursion IsAscii (cond t ([] ∷ pieces) (onto_first b pieces))
put_first true b pieces low all = (IsAscii-nil, all)
put_first false b [] low all = (IsAscii-cons b [] low IsAscii-nil, tt)
put_first false b (piece ∷ pieces) low all = (IsAscii-cons b piece low all.0, all.1)

pieces-ascii : (p : ℕ → Bool) (text : List ℕ) → IsAscii text → AllByRecursion IsAscii (slice_split p text)
pieces-ascii p [] ascii = (IsAscii-nil, tt)
pieces-ascii p (b ∷ bytes) ascii = put_first (p b) b (slice_split p bytes) (ascii 0) (pieces-ascii p bytes (λ i. ascii (suc i)))

at : (pieces : List (List ℕ)) (i : ℕ) (d : List ℕ) → AllByRecursion IsAscii pieces → i < length pieces → IsAscii (get_or pieces i d)
at [] i d all within = absurd (omega arith)
at (piece ∷ pieces) zero d all within = all.0
at (piece ∷ pieces) (suc i) d all within = at pieces i d all.1 (omega arith)

cut : (t : Bool) (b : ℕ) → b < 128 → IsAscii (cond t [] (b ∷ []))
cut true b low = IsAscii-nil
cut false b low = IsAscii-cons b [] low IsAscii-nil

without_return-ascii : (line : List ℕ) → IsAscii line → IsAscii (without_return line)
without_return-ascii [] ascii = IsAscii-nil
without_return-ascii (b ∷ c ∷ bytes) ascii = IsAscii-cons b _ (ascii 0) (without_return-ascii (c ∷ bytes) (λ i. ascii (suc i)))
without_return-ascii (b ∷ []) ascii = cut (eqb b 13) b (ascii 0)

pub line-utf8 : (p : ℕ → Bool) (text : List ℕ) (i : ℕ) (line : List ℕ) → IsAscii text → i < length (slice_split p text)
    → line ≡ get_or (slice_split p text) i line → is_utf8 (without_return line) ≡ true
line-utf8 p text i line ascii within here =
    let piece : IsAscii line = rw here (at (slice_split p text) i line (pieces-ascii p text ascii) within) in
    is_utf8-from_IsUtf8 (without_return line) (IsUtf8-from_ascii (without_return line) (without_return-ascii line piece))
