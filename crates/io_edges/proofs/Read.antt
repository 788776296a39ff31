-- How what is read of a source grows over several calls.
use Rattle.std.proofs.Common.{◌≡◌, ◌≤◌, ◌+◌, ℕ, List, [], ◌++◌, length, take, drop, Option, Some, None, Result, Ok}
use Rattle.std.proofs.Common.{Err, refl, ap, sym, ◌∙◌, arith, length-append}
use Rattle.std.specs.Prelude.{IfSome, OnErr}
use Rattle.std.proofs.Math.Seq.{take-add}
use Rattle.std.proofs.lemmas.List.{drop-drop, length-take-le, length-take, length-drop, take_at, take_all}
use Rattle.io_edges.specs.Sources.{fewer, TakesAtMost}
use Rattle.io_edges.specs.inner.Sources.{emptied, Gives, HasRead}

-- some bytes taken, and then some more
pub fewer-fewer : (m n : ℕ) (left : Option (List ℕ)) → fewer m (fewer n left) ≡ fewer (n + m) left
fewer-fewer m n None = refl
fewer-fewer m n (Some bytes) = ap Some (drop-drop m n bytes)

-- nothing was read yet
pub HasRead-nil : (left : Option (List ℕ)) → HasRead left left []
HasRead-nil None = record { front = tt; rest = refl }
HasRead-nil (Some bytes) = record { front = refl; rest = refl }

front_of_both : (first then : Option (List ℕ)) (xs ys : List ℕ) → then ≡ fewer (length xs) first
    → IfSome first (λ all. xs ≡ take (length xs) all) → IfSome then (λ all. ys ≡ take (length ys) all)
    → IfSome first (λ all. xs ++ ys ≡ take (length (xs ++ ys)) all)
front_of_both None then xs ys rest front other = tt
front_of_both (Some all) then xs ys rest front other =
    let of_rest : ys ≡ take (length ys) (drop (length xs) all) = rw rest at other in
    ap (λ zs. zs ++ ys) front ∙ ap (λ zs. take (length xs) all ++ zs) of_rest ∙ sym (take-add (length xs) (length ys) all)
    ∙ ap (λ n. take n all) (sym (length-append xs ys))

-- one read, and then another
pub HasRead-append : (first then now : Option (List ℕ)) (xs ys : List ℕ) → HasRead first then xs → HasRead then now ys
    → HasRead first now (xs ++ ys)
HasRead-append first then now xs ys one other = record {
  front = front_of_both first then xs ys one.rest one.front other.front;
  rest = other.rest ∙ ap (fewer (length ys)) one.rest ∙ fewer-fewer (length ys) (length xs) first
      ∙ ap (λ n. fewer n first) (sym (length-append xs ys));
}

front_from_gives : (before : Option (List ℕ)) (slice filled : List ℕ) (n : ℕ) → n ≤ length filled → IfSome before (Gives slice filled n)
    → IfSome before (λ all. take n filled ≡ take (length (take n filled)) all)
front_from_gives None slice filled n bound gives = tt
front_from_gives (Some all) slice filled n bound gives =
    ap (take n) gives.front ∙ take_at (take n all) (drop n slice) n (length-take-le n all gives.enough)
    ∙ ap (λ m. take m all) (sym (length-take-le n filled bound))

-- what one call gave
pub HasRead-from_gives : (before now : Option (List ℕ)) (slice filled : List ℕ) (n : ℕ) → n ≤ length filled
    → IfSome before (Gives slice filled n) → now ≡ fewer n before → HasRead before now (take n filled)
HasRead-from_gives before now slice filled n bound gives rest = record {
  front = front_from_gives before slice filled n bound gives;
  rest = rest ∙ ap (λ m. fewer m before) (sym (length-take-le n filled bound));
}

-- no more was read than was left
pub HasRead-bound : (first now : Option (List ℕ)) (bytes : List ℕ) → HasRead first now bytes
    → IfSome first (λ all. length bytes ≤ length all)
HasRead-bound None now bytes read = tt
HasRead-bound (Some all) now bytes read = omega (arith, ap length read.front, length-take (length bytes) all)

-- where none is left, all was read
pub HasRead-all : (first now : Option (List ℕ)) (bytes : List ℕ) → HasRead first now bytes → IfSome now (λ left. left ≡ [])
    → IfSome first (λ all. bytes ≡ all)
HasRead-all None now bytes read ended = tt
HasRead-all (Some all) now bytes read ended =
    let none_left : drop (length bytes) all ≡ [] = rw (read.rest) at ended in
    read.front ∙ take_all (length bytes) all (omega (arith, ap length none_left, length-drop (length bytes) all))

-- and that is how the source stands
pub emptied-from_end : (first now : Option (List ℕ)) (n : ℕ) → now ≡ fewer n first → IfSome now (λ left. left ≡ []) → now ≡ emptied first
emptied-from_end None now n rest ended = rest
emptied-from_end (Some all) now n rest ended = rest ∙ ap Some (rw rest at ended)

-- some were taken, and then some more
pub TakesAtMost-more : (first then now : Option (List ℕ)) (n most limit : ℕ) → then ≡ fewer n first → TakesAtMost most then now
    → n + most ≤ limit → TakesAtMost limit first now
TakesAtMost-more first then now n most limit taken more bound =
    (n + more.0, omega (arith, more.1), more.2 ∙ ap (fewer more.0) taken ∙ fewer-fewer more.0 n first)

-- what holds anyway holds at an error
pub told_at_err : {T E P : Type 0} (r : Result T E) → P → OnErr r P
told_at_err (Ok x) p = tt
told_at_err (Err e) p = p
