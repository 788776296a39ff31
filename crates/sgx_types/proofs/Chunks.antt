-- A chunk of bytes by its number, and pieces in a row.
use Rattle.std.proofs.Common.{◌≡◌, ℕ, zero, suc, ◌+◌, ◌*◌, ◌<◌, List, [], ◌++◌, get_or, take, drop, ap, ◌∙◌}
use Rattle.std.proofs.Common.{arith}
use Rattle.std.specs.Simd.{first_chunks}
use Rattle.std.proofs.lemmas.List.{drop-drop, take-take, drop-take, take-append-drop}

pub chunk_of_chunks : (n k i : ℕ) (bytes : List ℕ) → i < k → get_or (first_chunks n k bytes) i [] ≡ take n (drop (n * i) bytes)
chunk_of_chunks n zero i bytes low = absurd (omega arith)
chunk_of_chunks n (suc k) zero bytes low = let none : 0 ≡ n * 0 = omega arith in ap (λ m. take n (drop m bytes)) none
chunk_of_chunks n (suc k) (suc i) bytes low =
    let behind : n + n * i ≡ n * suc i = omega arith in
    chunk_of_chunks n k i (drop n bytes) (omega arith) ∙ ap (take n) (drop-drop (n * i) n bytes) ∙ ap (λ m. take n (drop m bytes)) behind

-- two pieces in a row are one
pub two_pieces : (n m : ℕ) (xs : List ℕ) → take n xs ++ take m (drop n xs) ≡ take (n + m) xs
two_pieces n m xs =
    let front : take n (take (n + m) xs) ≡ take n xs = take-take n (n + m) xs (omega arith) in
    let back : drop n (take (n + m) xs) ≡ take m (drop n xs) = drop-take n m xs in
    let whole : take n (take (n + m) xs) ++ drop n (take (n + m) xs) ≡ take (n + m) xs = take-append-drop n (take (n + m) xs) in
    cc
