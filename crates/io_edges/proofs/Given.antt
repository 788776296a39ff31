-- How the bytes that a sink was given grow over several calls.
use Rattle.std.proofs.Common.{◌≡◌, ◌+◌, ℕ, List, ◌++◌, length, take, drop, Option, Some, None, refl, ap, sym, ◌∙◌}
use Rattle.std.proofs.Common.{append_assoc}
use Rattle.std.proofs.Math.Seq.{take-add, take-length}
use Rattle.std.proofs.lemmas.List.{append-nil}
use Rattle.io_edges.specs.Sinks.{followed_by, GivesPart}
use Rattle.io_edges.specs.inner.Sinks.{GivesFront}

-- one text, and then another
pub followed_by-followed_by : (given : Option (List ℕ)) (xs ys : List ℕ)
    → followed_by (followed_by given xs) ys ≡ followed_by given (xs ++ ys)
followed_by-followed_by None xs ys = refl
followed_by-followed_by (Some bytes) xs ys = ap Some (append_assoc bytes xs ys)

-- a front of a text, and then the front of the rest
pub followed_by-front : (given : Option (List ℕ)) (text : List ℕ) (n m : ℕ)
    → followed_by (followed_by given (take n text)) (take m (drop n text)) ≡ followed_by given (take (n + m) text)
followed_by-front given text n m =
    followed_by-followed_by given (take n text) (take m (drop n text)) ∙ ap (λ xs. followed_by given xs) (sym (take-add n m text))

-- what is a part is a front
pub GivesFront-from_part : (before now : Option (List ℕ)) (text : List ℕ) → GivesPart before now text → GivesFront before now text
GivesFront-from_part before now text part = (part.0, part.2)

-- the whole is a front
pub GivesFront-from_all : (before now : Option (List ℕ)) (text : List ℕ) → now ≡ followed_by before text → GivesFront before now text
GivesFront-from_all before now text all = (length text, all ∙ ap (followed_by before) (sym (take-length text)))

-- where nothing was given, that is a front
pub GivesFront-none : (given : Option (List ℕ)) (text : List ℕ) → GivesFront given given text
GivesFront-none None text = (0, refl)
GivesFront-none (Some bytes) text = (0, ap Some (sym (append-nil bytes)))
