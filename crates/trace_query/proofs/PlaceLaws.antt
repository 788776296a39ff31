-- The moves of a page rise by place, and the last one up to a place led where the page was there.
use Rattle.std.proofs.Common.{inl, inr}
use Rattle.std.proofs.Common.{◌≡◌, ℕ, zero, suc, ◌+◌, ◌-◌, ◌<◌, ◌≤◌, Bool, true, false, if◌then◌else◌, List, [], ◌∷◌}
use Rattle.std.proofs.Common.{◌++◌, length, drop, get_or, Option, Some, None, option_to_list, refl, sym, ap, ◌∙◌, subst, append-nil, arith}
use Rattle.std.proofs.lemmas.Bool.{false≢true, cases_lt, le-leb, lt-leb, eqb-true}
use Rattle.std.proofs.lemmas.List.Sorted.{IsNonDecreasingBy-push}
use Rattle.sgx_rules.specs.declared.entries.Entry.{Entry}
use Rattle.sgx_types.specs.declared.names.Page.{Page}
use Rattle.trace_places.specs.declared.moves.Where.{Where}
use Rattle.trace_places.specs.declared.moves.Where.TheVariants.{Nowhere, At, Loading, Sealed}
use Rattle.trace_places.specs.Places.{same_where, moved, moved_by, place_of}
use Rattle.trace_query.specs.declared.page_moves.Move.{Move}
use Rattle.trace_query.specs.Moves.{first_entries, moves_at, moves}
use Rattle.trace_query.specs.inner.Lists.{at_place_from, at_place, MovesRise}
use Rattle.trace_spans.proofs.LastLaws.{last_append}

-- ---- places

-- no move is later than this place
UpTo : ℕ → List Move → Type 0
UpTo b [] = Unit {0}
UpTo b (step ∷ steps) = (step.place ≤ b) × UpTo b steps

up_to_more : (b : ℕ) (steps : List Move) → UpTo b steps → UpTo (b + 1) steps
unfolding UpTo
up_to_more b [] h = tt
up_to_more b (step ∷ steps) h = (omega (arith, h.0), up_to_more b steps h.1)

up_to_append : (b : ℕ) (xs ys : List Move) → UpTo b xs → UpTo b ys → UpTo b (xs ++ ys)
unfolding UpTo
up_to_append b [] ys h k = k
up_to_append b (x ∷ xs) ys h k = (h.0, up_to_append b xs ys h.1 k)

up_to_at : (b : ℕ) (steps : List Move) (k : ℕ) (d : Move) → UpTo b steps → k < length steps → (get_or steps k d).place ≤ b
unfolding UpTo
up_to_at b [] k d h within = absurd (omega (arith, within))
up_to_at b (step ∷ steps) zero d h within = h.0
up_to_at b (step ∷ steps) (suc k) d h within = up_to_at b steps k d h.1 (omega (arith, within))

one_up_to : (b : ℕ) (to : Option Where) → UpTo b (moves_at b (option_to_list to))
unfolding UpTo
one_up_to b None = tt
one_up_to b (Some to) = (omega arith, tt)

moves_up_to : (past : List Entry) (g : Page) → UpTo (length past) (moves past g)
unfolding UpTo
moves_up_to [] g = tt
moves_up_to (e ∷ past) g =
    let all : UpTo (length past + 1) (moves (e ∷ past) g)
    = up_to_append (length past + 1) (moves past g) (moves_at (length past + 1) (option_to_list (moved_by past e g)))
    (up_to_more (length past) (moves past g) (moves_up_to past g)) (one_up_to (length past + 1) (moved_by past e g)) in
    let Up : ℕ → Type 0 = λ b. UpTo b (moves (e ∷ past) g) in
    let more : length past + 1 ≡ length (e ∷ past) = omega arith in
    subst Up more all

rises_by : (b : ℕ) (steps : List Move) (to : Option Where) → MovesRise steps → UpTo b steps
    → MovesRise (steps ++ moves_at (b + 1) (option_to_list to))
rises_by b steps None rises up =
    let AreRising : List Move → Type 0 = MovesRise in
    subst AreRising (sym (append-nil steps)) rises
rises_by b steps (Some to) rises up =
    IsNonDecreasingBy-push (λ step. step.place) steps (record { place = b + 1; to = to }) rises
    (λ d some. omega (arith, up_to_at b steps (length steps - 1) d up (omega (arith, some))))

pub moves_rise : (past : List Entry) (g : Page) → MovesRise (moves past g)
moves_rise [] g = λ i j d le within. absurd (omega (arith, within))
moves_rise (e ∷ past) g = rises_by (length past) (moves past g) (moved_by past e g) (moves_rise past g) (moves_up_to past g)

-- ---- the last move up to a place

at_append : (first : Where) (xs ys : List Move) (n : ℕ)
    → at_place_from first (xs ++ ys) n ≡ at_place_from (at_place_from first xs n) ys n
at_append first xs ys n = last_append (λ (step : Move). step.place) (λ (step : Move). step.to) first xs ys n

-- where no move is later than b, all later places are the same
at_end : (first : Where) (steps : List Move) (b n : ℕ) → UpTo b steps → b ≤ n → at_place_from first steps n ≡ at_place_from first steps b
unfolding UpTo
at_end first [] b n up le = refl
at_end first (step ∷ steps) b n up le =
    rw (le-leb step.place n (omega (arith, up.0, le)), le-leb step.place b up.0) (at_end step.to steps b n up.1 le)

not_yet : (first : Where) (place n : ℕ) (to : Option Where) → n < place → at_place_from first (moves_at place (option_to_list to)) n ≡ first
not_yet first place n None lt = refl
not_yet first place n (Some to) lt = rw (lt-leb place n lt) refl

same_wheres : (a b : Where) → same_where a b ≡ true → a ≡ b
same_wheres Nowhere Nowhere h = refl
same_wheres (At f) (At k) h = ap (λ n. At (record { 0 = n })) (eqb-true f.0 k.0 h)
same_wheres (Loading f) (Loading k) h = ap (λ n. Loading (record { 0 = n })) (eqb-true f.0 k.0 h)
same_wheres (Sealed v) (Sealed w) h = ap Sealed (eqb-true v w h)
same_wheres a b h = absurd (false≢true h)

then_if : (b : Bool) (was is : Where) (place n : ℕ) → (b ≡ true → was ≡ is) → place ≤ n
    → at_place_from was (moves_at place (option_to_list (if b then None else Some is))) n ≡ is
then_if true was is place n same le = same refl
then_if false was is place n same le = rw (le-leb place n le) refl

-- a page that was here is there behind the move, or where there is none
then_there : (was is : Where) (place n : ℕ) → place ≤ n → at_place_from was (moves_at place (option_to_list (moved was is))) n ≡ is
then_there was is place n le = then_if (same_where was is) was is place n (same_wheres was is) le

-- ---- the first entries

drop_none : (k : ℕ) → drop {A = Entry} k [] ≡ []
drop_none zero = refl
drop_none (suc k) = refl

pub before_more : (e : Entry) (past : List Entry) (n : ℕ) → n ≤ length past → first_entries n (e ∷ past) ≡ first_entries n past
before_more e past n le =
    let more : length (e ∷ past) - n ≡ suc (length past - n) = omega (arith, le) in
    ap (λ k. drop k (e ∷ past)) more

pub before_all : (past : List Entry) (n : ℕ) → length past ≤ n → first_entries n past ≡ past
before_all past n le =
    let none : length past - n ≡ zero = omega (arith, le) in
    ap (λ k. drop k past) none

-- ---- all entries

pub place_before : (past : List Entry) (g : Page) (n : ℕ) → at_place (moves past g) n ≡ place_of (first_entries n past) g
place_before [] g n = ap (λ past. place_of past g) (sym (drop_none (length {A = Entry} [] - n)))
place_before (e ∷ past) g n =
    let was = moves past g in
    let new = moves_at (length past + 1) (option_to_list (moved_by past e g)) in
    at_append Nowhere was new n
    ∙ (elim (cases_lt (length past) n) [
      | inl behind ↦
          ap (λ w. at_place_from w new n)
          (at_end Nowhere was (length past) n (moves_up_to past g) (omega (arith, behind)) ∙ place_before past g (length past)
          ∙ ap (λ q. place_of q g) (before_all past (length past) (omega arith)))
          ∙ then_there (place_of past g) (place_of (e ∷ past) g) (length past + 1) n (omega (arith, behind))
          ∙ ap (λ q. place_of q g) (sym (before_all (e ∷ past) n (omega (arith, behind))))
      | inr up ↦
          not_yet (at_place was n) (length past + 1) n (moved_by past e g) (omega (arith, up))
          ∙ place_before past g n
          ∙ ap (λ q. place_of q g) (sym (before_more e past n up))
    ])
