-- How what was given and what is held go on over a text that grows.
use Rattle.std.proofs.Common.{◌≡◌, ℕ, ◌+◌, List, [], ◌++◌, length, take, Option, ap, sym, ◌∙◌, append_assoc}
use Rattle.std.proofs.Common.{length-append, arith}
use Rattle.std.proofs.lemmas.List.{append-nil}
use Rattle.std.proofs.lemmas.List.{take-append-le}
use Rattle.std.proofs.Math.Seq.{take-append-add}
use Rattle.io_edges.specs.Sinks.{followed_by, GivesPart}
use Rattle.io_edges.proofs.Given.{followed_by-followed_by}
use Rattle.trace_pieces.specs.inner.Held.{IsHeld}

-- more of what is held was given
pub held_then : (first then now : Option (List ℕ)) (before held text : List ℕ) → IsHeld first then before text
    → IsHeld then now held before
    → IsHeld first now held text
held_then first then now before held text old new = record {
  front = old.front ++ new.front;
  given = new.given ∙ ap (λ given. followed_by given new.front) old.given ∙ followed_by-followed_by first old.front new.front;
  whole = append_assoc old.front new.front held ∙ ap (λ rest. old.front ++ rest) new.whole ∙ old.whole;
}

-- more was printed
pub held_more : (first now : Option (List ℕ)) (held more text : List ℕ) → IsHeld first now held text
    → IsHeld first now (held ++ more) (text ++ more)
held_more first now held more text old = record {
  front = old.front;
  given = old.given;
  whole = sym (append_assoc old.front held more) ∙ ap (λ xs. xs ++ more) old.whole;
}

-- what is held was given
pub held_given : (first then now : Option (List ℕ)) (held text : List ℕ) → IsHeld first then held text → now ≡ followed_by then held
    → now ≡ followed_by first text
held_given first then now held text old all =
    all ∙ ap (λ given. followed_by given held) old.given ∙ followed_by-followed_by first old.front held ∙ ap (followed_by first) old.whole

-- room was made, and a line was printed behind what is held
pub held_line : (first then now : Option (List ℕ)) (before held line after text all : List ℕ) → IsHeld first then before text
    → IsHeld then now held before → after ≡ held ++ line → text ++ line ≡ all
    → IsHeld first now after all
held_line first then now before held line after text all old made printed whole =
    let more = held_more first now held line text (held_then first then now before held text old made) in
    record { front = more.front; given = more.given; whole = ap (λ xs. more.front ++ xs) printed ∙ more.whole ∙ whole }

-- a part of what is held was given, and other text would have followed
pub broke_off : (first then now : Option (List ℕ)) (held text more whole : List ℕ) → IsHeld first then held text → GivesPart then now held
    → text ++ more ≡ whole → GivesPart first now whole
broke_off first then now held text more whole old part is =
    let n = length old.front + part.0 in
    let long : length old.front + length held ≡ length text = sym (length-append old.front held) ∙ ap length old.whole in
    let front : take n whole ≡ old.front ++ take part.0 held =
    ap (take n) (sym is)
    ∙ take-append-le n text more (omega (arith, part.1, long))
    ∙ ap (take n) (sym old.whole)
    ∙ take-append-add old.front held part.0 in (
      n,
      omega (arith, part.1, long, length-append text more, ap length is),
      part.2 ∙ ap (λ given. followed_by given (take part.0 held)) old.given
          ∙ followed_by-followed_by first old.front (take part.0 held) ∙ ap (followed_by first) (sym front),
    )

-- .. or none would
pub held_broke : (first then now : Option (List ℕ)) (held text : List ℕ) → IsHeld first then held text → GivesPart then now held
    → GivesPart first now text
held_broke first then now held text old part = broke_off first then now held text [] text old part (append-nil text)
