-- Lists by their places.
use Rattle.std.proofs.Common.{ℕ, zero, suc, ◌≡◌, ◌<◌, ◌+◌, refl, sym, ap, arith}
use Rattle.std.proofs.Common.{◌&&◌, true, false, Option, None, List, [], ◌∷◌, ◌++◌, length, replicate}
use Rattle.std.proofs.Common.{get_or, ltb}
use Rattle.std.proofs.lemmas.Bool.{ltb-false}
use Rattle.std.proofs.lemmas.List.{replicate-append-replicate}
use Rattle.std.proofs.lemmas.List.{get_or_past}
use Rattle.std.specs.List.{flat_map}
use Rattle.flat_machine.specs.declared.table.PlainPage.{PlainPage}
use Rattle.flat_machine.specs.inner.Parts.{words_in}
use Rattle.sgx_types.proofs.Lists.{get_or-like}

-- one item more
pub replicate_more : {X : Type 0} (n : ℕ) (x : X) → replicate n x ++ x ∷ [] ≡ replicate (n + 1) x
replicate_more n x = replicate-append-replicate n 1 x

-- a word of a page that was not added
pub zero_word : (pages : List (Option PlainPage)) (n i : ℕ) → get_or pages n None ≡ None → i < 512
    → 0 ≡ get_or (words_in (get_or pages n None)) i 0
zero_word pages n i none low = rw none (sym (get_or-like 512 i 0))

-- an item that was read from its place
pub read_at : {X : Type 0} (xs : List X) (i : ℕ) (x d : X) → i < length xs → x ≡ get_or xs i x → x ≡ get_or xs i d
read_at [] i x d low is = absurd (omega (arith, low))
read_at (y ∷ xs) zero x d low is = is
read_at (y ∷ xs) (suc i) x d low is = read_at xs i x d (omega (arith, low)) is

-- a word of a page of an enclave without a table
pub zero_outside : (tables : List (List (Option PlainPage))) (e n i : ℕ) → false ≡ ltb e (length tables) → i < 512
    → 0 ≡ get_or (words_in (get_or (get_or tables e []) n None)) i 0
zero_outside tables e n i outside low = zero_word (get_or tables e []) n i
    (ap (λ row. get_or row n None) (get_or_past tables e [] (ltb-false e (length tables) (sym outside)))) low

-- pieces joined end to end, each made of a word
pub joined : (f : ℕ → List ℕ) (pieces : List (List ℕ)) (words : List ℕ) → length pieces ≡ length words
    → ((k : ℕ) → k < length words → get_or pieces k [] ≡ f (get_or words k 0))
    → flat_map (λ x. x) pieces ≡ flat_map f words
joined f [] [] same made = refl
joined f [] (w ∷ words) same made = absurd (omega (arith, same))
joined f (p ∷ pieces) [] same made = absurd (omega (arith, same))
joined f (p ∷ pieces) (w ∷ words) same made =
    (λ i. made 0 (omega arith) i ++ joined f pieces words (omega (arith, same)) (λ k low. made (suc k) (omega (arith, low))) i)
