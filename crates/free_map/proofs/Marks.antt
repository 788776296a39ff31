-- Bits in a list of 64-bit numbers: one bit written, the least bit, and all bits below a length.
use Rattle.std.proofs.Common.{◌≡◌, ◌≢◌, ℕ, ◌+◌, ◌-◌, ◌*◌, ◌/◌, ◌%◌, ◌^◌, ◌<◌, ◌≤◌, ◌==◌}
use Rattle.std.proofs.Common.{Bool, true, false, cond, List, [], ◌∷◌, ◌++◌, map, length, get_or, set, replicate, count_by}
use Rattle.std.proofs.Common.{position, Some, None, ltb, bit_and, bit_or, w64, add-zero, mul-one, refl, sym, ap, ◌∙◌, arith}
use Rattle.std.proofs.Common.{⊎_elim}
use Rattle.std.specs.Int.{bit_at, trailing_zeros}
use Rattle.std.specs.List.{position_or_len}
use Rattle.std.proofs.lemmas.List.{same_lists, get_or-set_same, get_or-set_other, length-set, get_or_default, length-replicate}
use Rattle.std.proofs.lemmas.List.{get_or-replicate, get_or_append_left, get_or-append_right, append-nil, length-append}
use Rattle.std.proofs.lemmas.List.{get_or_past}
use Rattle.std.proofs.lemmas.List.FromFn.{length-map-range_with_len, get_or-map-range_with_len}
use Rattle.std.proofs.lemmas.List.Sums.{sum_by-set, position_or_len_is, fails_before_first, passes_at_first, count_by-le-length}
use Rattle.std.proofs.lemmas.List.Folds.{sum_by-replicate}
use Rattle.std.proofs.lemmas.Bool.{cases_eq, cases_lt, eqb-true, false≢true, lt-ltb, le-ltb, ltb-true, ltb-false, cond_both}
use Rattle.std.proofs.lemmas.Bool.{cond-true}
use Rattle.std.proofs.lemmas.Bool.{cond-false, not-false}
use Rattle.std.proofs.lemmas.Nat.Bits.{bit_at_set_same, bit_at_set_other, bit_at_clear_same, bit_at_clear_other}
use Rattle.std.proofs.lemmas.Nat.Bits.{bit_at-trailing_zeros}
use Rattle.std.proofs.lemmas.Nat.Bits.{bit_at-zero, bit_at_ones, bit_at_ones_above}
use Rattle.std.proofs.Math.Nat.{div-add-mod}
use Rattle.std.proofs.lemmas.Nat.{mod_below, one_shl}
use Rattle.free_map.specs.inner.FreeMap.{is_marked, is_used, members, IsFull, IsFreeMap}

-- the members below a length, place by place
member : (marks : List ℕ) (len k : ℕ) (d : Bool) → k < len → get_or (members marks len) k d ≡ is_marked marks k
member marks len k d below = get_or-map-range_with_len (is_marked marks) 0 len k k d below (omega arith)

length-members : (marks : List ℕ) (len : ℕ) → length (members marks len) ≡ len
length-members marks len = length-map-range_with_len (is_marked marks) 0 len

-- bit f is b, and every other bit is as before
pub record Puts (marks marks' : List ℕ) (f : ℕ) (b : Bool) : Type 0 where
  pub sized : length marks' ≡ length marks
  pub here : is_marked marks' f ≡ b
  pub others : (n : ℕ) → n ≢ f → is_marked marks' n ≡ is_marked marks n

-- a mark written at place f / 64, which differs from the mark x there at bit f % 64 alone
puts_mark : (marks : List ℕ) (f x y : ℕ) (b : Bool) → f / 64 < length marks → x ≡ get_or marks (f / 64) x
    → (bit_at y (f % 64) == 1) ≡ b → ((i : ℕ) → i < 64 → i ≢ f % 64 → bit_at y i ≡ bit_at x i) → Puts marks (set marks (f / 64) y) f b
puts_mark marks f x y b low read same other = record {
  sized = length-set marks (f / 64) y;
  here = ap (λ v. bit_at v (f % 64) == 1) (get_or-set_same marks (f / 64) y 0 low) ∙ same;
  others = λ n apart. ⊎_elim (at_mark n apart) (elsewhere n) (cases_eq (n / 64) (f / 64));
}
  where
    at_mark : (n : ℕ) → n ≢ f → n / 64 ≡ f / 64 → is_marked (set marks (f / 64) y) n ≡ is_marked marks n
    at_mark n apart e =
        let written : get_or (set marks (f / 64) y) (n / 64) 0 ≡ y = rw e (get_or-set_same marks (f / 64) y 0 low) in
        let before : get_or marks (n / 64) 0 ≡ x = rw e (get_or_default marks (f / 64) 0 x low ∙ sym read) in
        let bits : bit_at y (n % 64) ≡ bit_at x (n % 64) =
        other (n % 64) (mod_below n 64 (omega arith))
        (λ same_bit. apart (sym (div-add-mod n 64) ∙ ap (λ q. 64 * q + n % 64) e ∙ ap (λ r. 64 * (f / 64) + r) same_bit
        ∙ div-add-mod f 64)) in
        ap (λ v. bit_at v (n % 64) == 1) written ∙ ap (λ v. v == 1) bits ∙ ap (λ v. bit_at v (n % 64) == 1) (sym before)

    elsewhere : (n : ℕ) → (n / 64 ≡ f / 64 → ⊥) → is_marked (set marks (f / 64) y) n ≡ is_marked marks n
    elsewhere n apart = ap (λ v. bit_at v (n % 64) == 1) (get_or-set_other marks (f / 64) (n / 64) y 0 apart)

-- a bit set
pub puts_set : (marks : List ℕ) (f x : ℕ) → f / 64 < length marks → x ≡ get_or marks (f / 64) x
    → Puts marks (set marks (f / 64) (bit_or x (1 * 2 ^ (f % 64) % 2 ^ 64))) f true
puts_set marks f x low read =
    let within : f % 64 < 64 = mod_below f 64 (omega arith) in
    puts_mark marks f x _ true low read (rw (bit_at_set_same w64 x (f % 64) within) refl)
    (λ i _ apart. bit_at_set_other w64 x (f % 64) within i apart)

-- a bit cleared
pub puts_clear : (marks : List ℕ) (f x : ℕ) → f / 64 < length marks → x ≡ get_or marks (f / 64) x
    → Puts marks (set marks (f / 64) (bit_and x (2 ^ 64 - 1 - 1 * 2 ^ (f % 64) % 2 ^ 64))) f false
puts_clear marks f x low read =
    let within : f % 64 < 64 = mod_below f 64 (omega arith) in
    puts_mark marks f x _ false low read (rw (bit_at_clear_same w64 x (f % 64) within) refl)
    (λ i low apart. bit_at_clear_other w64 x (f % 64) within i low apart)

-- what a written bit leaves of the members below a length
pub members-puts : (marks marks' : List ℕ) (len f : ℕ) (b : Bool) → f < len → Puts marks marks' f b
    → members marks' len ≡ set (members marks len) f b
members-puts marks marks' len f b low puts =
    same_lists _ _ (length-members marks' len ∙ sym (length-members marks len) ∙ sym (length-set (members marks len) f b)) at
  where
    at : (k : ℕ) (d : Bool) → k < length (members marks' len) → get_or (members marks' len) k d ≡ get_or (set (members marks len) f b) k d
    at k d below =
        let inside : k < len = rw length-members at below in
        ⊎_elim
        (λ e. member marks' len k d inside ∙ ap (is_marked marks') e ∙ puts.here
        ∙ sym (rw e (get_or-set_same (members marks len) f b d (rw length-members low))))
        (λ apart. member marks' len k d inside ∙ puts.others k apart ∙ sym (member marks len k d inside)
        ∙ sym (get_or-set_other (members marks len) f k b d apart))
        (cases_eq k f)

-- one more is true, and one less
pub count_by-set_true : (xs : List Bool) (i : ℕ) → i < length xs → get_or xs i false ≡ false
    → count_by (λ b. b) (set xs i true) ≡ count_by (λ b. b) xs + 1
count_by-set_true xs i low e =
    let law : count_by (λ b. b) (set xs i true) + cond (get_or xs i false) 1 0 ≡ count_by (λ b. b) xs + 1 =
    sum_by-set (λ b. cond b 1 0) xs i true false low in
    sym (add-zero (count_by (λ b. b) (set xs i true))) ∙ rw e at law

pub count_by-set_false : (xs : List Bool) (i : ℕ) → i < length xs → get_or xs i false ≡ true
    → count_by (λ b. b) (set xs i false) + 1 ≡ count_by (λ b. b) xs
count_by-set_false xs i low e =
    let law : count_by (λ b. b) (set xs i false) + cond (get_or xs i false) 1 0 ≡ count_by (λ b. b) xs + 0 =
    sum_by-set (λ b. cond b 1 0) xs i false false low in
    (rw e at law) ∙ add-zero (count_by (λ b. b) xs)

-- the first place that passes, where there is one
pub position_some : {X : Type 0} (p : X → Bool) (xs : List X) (i : ℕ) → position p xs ≡ Some i
    → (position_or_len p xs ≡ i) × (i < length xs)
position_some p xs i h =
    cond_both (ltb (position_or_len p xs) (length xs)) (Some (position_or_len p xs)) None
    (λ v. v ≡ Some i → (position_or_len p xs ≡ i) × (i < length xs))
    (λ low found. let e : position_or_len p xs ≡ i = cc in (e, rw (← e) (ltb-true _ _ low))) (λ _ none. cc) h

pub position_none : {X : Type 0} (p : X → Bool) (xs : List X) → position p xs ≡ None → length xs ≤ position_or_len p xs
position_none p xs h =
    cond_both (ltb (position_or_len p xs) (length xs)) (Some (position_or_len p xs)) None (λ v. v ≡ None → length xs ≤ position_or_len p xs)
    (λ _ found. cc) (λ high _. ltb-false _ _ high) h

pub position_at : {X : Type 0} (p : X → Bool) (xs : List X) (i : ℕ) → i < length xs → position_or_len p xs ≡ i → position p xs ≡ Some i
position_at p xs i low e = rw e (cond-true (ltb i (length xs)) (Some i) None (lt-ltb i (length xs) low))

-- no bit before the first mark with one
unmarked_before : (marks : List ℕ) (n : ℕ) → n / 64 < position_or_len is_used marks → is_marked marks n ≡ false
unmarked_before marks n low =
    let zero : get_or marks (n / 64) 0 ≡ 0 = eqb-true _ 0 (not-false _ (fails_before_first is_used marks (n / 64) 0 low)) in
    ap (λ v. bit_at v (n % 64) == 1) zero ∙ ap (λ v. v == 1) (bit_at-zero (n % 64))

-- the bit that is marked in the first mark with one
record IsLeast (marks : List ℕ) (n : ℕ) : Type 0 where
  pub marked : is_marked marks n ≡ true
  pub before : (k : ℕ) → k < n → is_marked marks k ≡ false

least_mark : (marks : List ℕ) (i x : ℕ) → position is_used marks ≡ Some i → x ≡ get_or marks i x → x < 2 ^ 64
    → IsLeast marks (64 * i + trailing_zeros w64 x)
least_mark marks i x found read small =
    let first = position_some is_used marks i found in
    let is_x : get_or marks i 0 ≡ x = get_or_default marks i 0 x first.1 ∙ sym read in
    let used : x ≢ 0 = λ e. false≢true (sym (ap is_used (is_x ∙ e)) ∙ rw first.0 at (passes_at_first is_used marks 0 (rw first.0 first.1)))
    in
    let lowest = bit_at-trailing_zeros w64 x (omega (arith, used)) small in
    record {
      marked = at_place i (trailing_zeros w64 x) lowest.0 ∙ ap (λ v. bit_at v (trailing_zeros w64 x) == 1) is_x ∙ ap (λ v. v == 1) lowest.1;
      before = λ k low. ⊎_elim
          (λ earlier. unmarked_before marks k (rw first.0 earlier))
          (λ later.
          let here : k / 64 ≡ i = omega (arith, lowest.0) in
          ap (λ q. bit_at (get_or marks q 0) (k % 64) == 1) here ∙ ap (λ v. bit_at v (k % 64) == 1) is_x
          ∙ ap (λ v. v == 1) (lowest.2 (k % 64) (omega (arith, lowest.0))))
          (cases_lt (k / 64) i);
    }
  where
    at_place : (i j : ℕ) → j < 64 → is_marked marks (64 * i + j) ≡ (bit_at (get_or marks i 0) j == 1)
    at_place i j low =
        let q : (64 * i + j) / 64 ≡ i = omega arith in
        let r : (64 * i + j) % 64 ≡ j = omega arith in
        ap (λ v. bit_at (get_or marks v 0) ((64 * i + j) % 64) == 1) q ∙ ap (λ v. bit_at (get_or marks i 0) v == 1) r

least_member : (marks : List ℕ) (len n : ℕ) → ((k : ℕ) → len ≤ k → is_marked marks k ≡ false) → IsLeast marks n
    → (n < len) × (position (λ b. b) (members marks len) ≡ Some n)
least_member marks len n clear least =
    let low : n < len = ⊎_elim (λ inside. inside) (λ past. absurd (false≢true (sym (clear n past) ∙ least.marked))) (cases_lt n len) in
    let inside : n < length (members marks len) = rw length-members low in (
      low,
      position_at (λ b. b) (members marks len) n inside (position_or_len_is (λ b. b) (members marks len) n false (omega (arith, inside))
          (λ k below. member marks len k false (omega (arith, low)) ∙ least.before k below)
          (λ _. member marks len n false low ∙ least.marked)),
    )

-- the least member, by the first mark with a bit and its lowest one
pub position-members : (marks : List ℕ) (len i x : ℕ) → ((n : ℕ) → len ≤ n → is_marked marks n ≡ false) → position is_used marks ≡ Some i
    → x ≡ get_or marks i x → x < 2 ^ 64
    → (64 * i + trailing_zeros w64 x < len) × (position (λ b. b) (members marks len) ≡ Some (64 * i + trailing_zeros w64 x))
position-members marks len i x clear found read small =
    least_member marks len (64 * i + trailing_zeros w64 x) clear (least_mark marks i x found read small)

-- no member, where no mark has a bit
pub position-members_none : (marks : List ℕ) (len : ℕ) → length marks ≡ (len + 63) / 64 → position is_used marks ≡ None
    → position (λ b. b) (members marks len) ≡ None
position-members_none marks len sized none =
    let long : length marks ≤ position_or_len is_used marks = position_none is_used marks none in
    let fails : (k : ℕ) → k < length (members marks len) → get_or (members marks len) k false ≡ false =
    λ k below. let inside : k < len =
    rw length-members at below in member marks len k false inside ∙ unmarked_before marks k (omega arith) in
    let end : position_or_len (λ b. b) (members marks len) ≡ length (members marks len) =
    position_or_len_is (λ b. b) (members marks len) (length (members marks len)) false (omega arith) fails (λ past. absurd (omega arith)) in
    cond-false _ _ _ (le-ltb (position_or_len (λ b. b) (members marks len)) (length (members marks len)) (omega (arith, end)))

-- a mark whose low bits are set
bit-ones : (k i : ℕ) → (bit_at (2 ^ k - 1) i == 1) ≡ ltb i k
bit-ones k i =
    ⊎_elim
    (λ low. rw (bit_at_ones k i low) (sym (lt-ltb i k low)))
    (λ past. rw (bit_at_ones_above k i past) (sym (le-ltb i k past)))
    (cases_lt i k)

-- marks with all bits, followed by others
after_whole : (q n : ℕ) (rest : List ℕ) → is_marked (replicate q (2 ^ 64 - 1) ++ rest) n ≡ cond (ltb n (64 * q)) true
    (is_marked rest (n - 64 * q))
after_whole q n rest =
    ⊎_elim
    (λ low.
    let whole : get_or (replicate q (2 ^ 64 - 1) ++ rest) (n / 64) 0 ≡ 2 ^ 64 - 1 =
    get_or_append_left (replicate q (2 ^ 64 - 1)) rest 0 (n / 64) (rw length-replicate low)
    ∙ get_or-replicate q (n / 64) (2 ^ 64 - 1) 0 low in
    ap (λ v. bit_at v (n % 64) == 1) whole ∙ bit-ones 64 (n % 64) ∙ lt-ltb (n % 64) 64 (mod_below n 64 (omega arith))
    ∙ sym (cond-true _ true _ (lt-ltb n (64 * q) (omega arith))))
    (λ past.
    let mark : get_or (replicate q (2 ^ 64 - 1) ++ rest) (n / 64) 0 ≡ get_or rest (n / 64 - q) 0 =
    get_or-append_right (replicate q (2 ^ 64 - 1)) rest q (n / 64) 0 (length-replicate q (2 ^ 64 - 1)) past in
    let place : n / 64 - q ≡ (n - 64 * q) / 64 = omega arith in
    let bit : n % 64 ≡ (n - 64 * q) % 64 = omega arith in
    ap (λ v. bit_at v (n % 64) == 1) mark ∙ ap (λ v. bit_at (get_or rest v 0) (n % 64) == 1) place
    ∙ ap (λ v. bit_at (get_or rest ((n - 64 * q) / 64) 0) v == 1) bit
    ∙ sym (cond-false _ true _ (le-ltb n (64 * q) (omega arith))))
    (cases_lt (n / 64) q)

-- whole marks, and the bits of the rest
full_by : (len : ℕ) (rest : List ℕ) → length rest ≡ (len % 64 + 63) / 64 → ((n : ℕ) → is_marked rest n ≡ ltb n (len % 64))
    → IsFull (replicate (len / 64) (2 ^ 64 - 1) ++ rest) len
full_by len rest sized below = record {
  sized = length-append (replicate (len / 64) (2 ^ 64 - 1)) rest ∙ rw (length-replicate, sized) (omega arith);
  marked = λ n.
      after_whole (len / 64) n rest
      ∙ cond_both (ltb n (64 * (len / 64))) true (is_marked rest (n - 64 * (len / 64))) (λ v. v ≡ ltb n len)
      (λ low. sym (lt-ltb n len (omega (arith, ltb-true _ _ low))))
      (λ high. let past : 64 * (len / 64) ≤ n = ltb-false _ _ high in
      below (n - 64 * (len / 64))
      ∙ ⊎_elim
      (λ low. lt-ltb _ _ low ∙ sym (lt-ltb n len (omega arith)))
      (λ over. le-ltb _ _ over ∙ sym (le-ltb n len (omega arith)))
      (cases_lt (n - 64 * (len / 64)) (len % 64)));
}

-- all bits below a length, and none past it
pub whole_marks : (len : ℕ) → len % 64 ≡ 0 → IsFull (replicate (len / 64) (2 ^ 64 - 1)) len
whole_marks len even =
    let full : IsFull (replicate (len / 64) (2 ^ 64 - 1) ++ []) len =
    full_by len [] (rw even refl) (λ n. ap (λ v. v == 1) (bit_at-zero (n % 64)) ∙ sym (le-ltb n (len % 64) (omega arith))) in
    rw append-nil at full

pub whole_and_rest : (len : ℕ) → len % 64 ≢ 0 → IsFull (replicate (len / 64) (2 ^ 64 - 1) ++ (1 * 2 ^ (len % 64) % 2 ^ 64 - 1) ∷ []) len
whole_and_rest len odd =
    rw (one_shl (len % 64) 64 (mod_below len 64 (omega arith)))
    (full_by len ((2 ^ (len % 64) - 1) ∷ []) (omega (arith, odd)) marked)
  where
    marked : (n : ℕ) → is_marked ((2 ^ (len % 64) - 1) ∷ []) n ≡ ltb n (len % 64)
    marked n =
        ⊎_elim
        (λ low. let first : n / 64 ≡ 0 = omega arith in let same : n % 64 ≡ n = omega arith in rw (first, same) (bit-ones (len % 64) n))
        (λ past.
        let other : get_or ((2 ^ (len % 64) - 1) ∷ []) (n / 64) 0 ≡ 0 = get_or_past ((2 ^ (len % 64) - 1) ∷ []) (n / 64) 0 past in
        ap (λ v. bit_at v (n % 64) == 1) other ∙ ap (λ v. v == 1) (bit_at-zero (n % 64))
        ∙ sym (le-ltb n (len % 64) (omega (arith, mod_below len 64 (omega arith)))))
        (cases_lt (n / 64) 1)

-- the set of all numbers below a length
pub full_map : (marks : List ℕ) (len : ℕ) → len ≤ 4096 → IsFull marks len
    → (IsFreeMap marks len len) × (members marks len ≡ replicate len true)
full_map marks len small full = (
  record {
    small = small;
    sized = full.sized;
    clear = λ n past. full.marked n ∙ le-ltb n len past;
    counted = sym (ap (count_by (λ b. b)) all ∙ sum_by-replicate (λ b. cond b 1 0) len true ∙ mul-one len);
  },
  all,
)
  where
    all : members marks len ≡ replicate len true
    all = same_lists _ _ (length-members marks len ∙ sym (length-replicate len true))
        (λ k d below. let low : k < len = rw length-members at below in
        member marks len k d low ∙ full.marked k ∙ lt-ltb k len low ∙ sym (get_or-replicate len k true d low))

-- the mark of a number of the set's range
pub mark_within : (marks : List ℕ) (len count f : ℕ) (all : List Bool) → IsFreeMap marks len count → members marks len ≡ all
    → f < length all → (f < len) × (f / 64 < length marks)
mark_within marks len count f all map view within =
    let low : f < len = rw length-members at (rw (← view) at within) in (low, rw map.sized (omega arith))

-- the set with one bit written
pub record Written (marks' : List ℕ) (len count : ℕ) (all : List Bool) (f : ℕ) (b : Bool) : Type 0 where
  pub map : IsFreeMap marks' len count
  pub members : members marks' len ≡ set all f b

written : (marks marks' : List ℕ) (len count count' f : ℕ) (all : List Bool) (b : Bool) → IsFreeMap marks len count
    → members marks len ≡ all → f < length all → Puts marks marks' f b
    → count' ≡ count_by (λ b. b) (set all f b) → Written marks' len count' all f b
written marks marks' len count count' f all b map view within puts counted =
    let low : f < len = (mark_within marks len count f all map view within).0 in
    let now : members marks' len ≡ set all f b = members-puts marks marks' len f b low puts ∙ ap (λ xs. set xs f b) view in
    record {
      map = record {
        small = map.small;
        sized = puts.sized ∙ map.sized;
        clear = λ n past. puts.others n (λ e. omega arith) ∙ map.clear n past;
        counted = counted ∙ ap (count_by (λ b. b)) (sym now);
      };
      members = now;
    }

-- one more member
pub inserted : (marks : List ℕ) (len count f x : ℕ) (all : List Bool) → IsFreeMap marks len count → members marks len ≡ all → f < length all
    → get_or all f false ≡ false → x ≡ get_or marks (f / 64) x
    → Written (set marks (f / 64) (bit_or x (1 * 2 ^ (f % 64) % 2 ^ 64))) len (count + 1) all f true
inserted marks len count f x all map view within absent read =
    written marks _ len count _ f all true map view within (puts_set marks f x (mark_within marks len count f all map view within).1 read)
    (ap (λ n. n + 1) (map.counted ∙ ap (count_by (λ b. b)) view) ∙ sym (count_by-set_true all f within absent))

-- one member less
pub removed : (marks : List ℕ) (len count f x : ℕ) (all : List Bool) → IsFreeMap marks len count → members marks len ≡ all → f < length all
    → get_or all f false ≡ true → x ≡ get_or marks (f / 64) x
    → Written (set marks (f / 64) (bit_and x (2 ^ 64 - 1 - 1 * 2 ^ (f % 64) % 2 ^ 64))) len (count - 1) all f false
removed marks len count f x all map view within present read =
    let before : count ≡ count_by (λ b. b) all = map.counted ∙ ap (count_by (λ b. b)) view in
    written marks _ len count _ f all false map view within
    (puts_clear marks f x (mark_within marks len count f all map view within).1 read)
    (omega (arith, before, count_by-set_false all f within present))

-- there are no more members than numbers
pub insert_fits : (marks : List ℕ) (len count f : ℕ) (all : List Bool) → IsFreeMap marks len count → members marks len ≡ all
    → f < length all → get_or all f false ≡ false → count + 1 ≤ len
insert_fits marks len count f all map view within absent =
    let size : length (set all f true) ≡ len = length-set all f true ∙ ap length (sym view) ∙ length-members marks len in
    omega (
      arith,
      map.counted,
      ap (count_by (λ b. b)) view,
      count_by-set_true all f within absent,
      count_by-le-length (λ b. b)
          (set all f true),
    )

-- the least member
pub least_within : (marks : List ℕ) (len count i x : ℕ) (all : List Bool) → IsFreeMap marks len count → members marks len ≡ all
    → position is_used marks ≡ Some i → x ≡ get_or marks i x → x < 2 ^ 64
    → (64 * i + trailing_zeros w64 x < len) × (Some (64 * i + trailing_zeros w64 x) ≡ position (λ b. b) all)
least_within marks len count i x all map view found read small =
    let first = position-members marks len i x map.clear found read small in
    (first.0, sym (ap (position (λ b. b)) (sym view) ∙ first.1))

pub least_none : (marks : List ℕ) (len count : ℕ) (all : List Bool) → IsFreeMap marks len count → members marks len ≡ all
    → position is_used marks ≡ None → None ≡ position (λ b. b) all
least_none marks len count all map view none = sym (ap (position (λ b. b)) (sym view) ∙ position-members_none marks len map.sized none)
