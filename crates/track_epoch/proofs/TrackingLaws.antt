-- What entering, leaving and tracking do to the noted epochs and to the two counts.
use Rattle.std.proofs.Common.{◌≡◌, ℕ, ◌+◌, ◌-◌, ◌<◌, ◌≤◌, suc, zero, Bool, true, false, cond, eqb, ltb, leb, List}
use Rattle.std.proofs.Common.{[], ◌∷◌, length, get_or, refl, sym, ap₂, ◌∙◌, zero-add, one-add, ◌⊎◌, inl, inr, arith}
use Rattle.std.specs.Prelude.{All, Contains, count_by}
use Rattle.std.specs.List.Sorted.{IsNonDecreasing}
use Rattle.std.proofs.lemmas.Bool.{eqb-true, eqb-false, ltb-false, leb-true, leb-false, lt-ltb, le-ltb, le-leb, lt-leb, cases_lt}
use Rattle.std.proofs.lemmas.List.{length_push}
use Rattle.std.proofs.lemmas.List.Elements.{All-nil, All-cons, All-head, All-tail, All-push}
use Rattle.std.proofs.lemmas.List.Sums.{sum_by_push, sum_by-cons}
use Rattle.std.proofs.lemmas.List.Sorted.{IsNonDecreasingBy-push}
use Rattle.sgx_types.specs.declared.names.TheConstants.{LAST_EPOCH, PROCESSORS}
use Rattle.track_epoch.specs.inner.Counters.{noted_by}
use Rattle.track_epoch.specs.inner.Tracking.{Tracking, starting_at, entered, without, left, tracked, number_older, number_newer}
use Rattle.track_epoch.specs.inner.Tracking.{number_up_to}
use Rattle.track_epoch.specs.inner.Tracking.{IsDrained, IsRecent, IsTracking}

-- ---- lists with one element fewer

-- the count of a list goes by its first element and the rest
count_by-cons : (p : ℕ → Bool) (x : ℕ) (xs : List ℕ) → count_by p (x ∷ xs) ≡ cond (p x) 1 0 + count_by p xs
count_by-cons p x xs = sum_by-cons (λ n. cond (p n) 1 0) x xs

-- an element that is not the first is in the rest
contains_cases : (y : ℕ) (ys : List ℕ) (x : ℕ) → Contains (y ∷ ys) x → eqb y x ≡ false → Contains ys x
contains_cases y ys x (zero, low, here) other = absurd (eqb-false y x other here)
contains_cases y ys x (suc k, low, here) other = (k, omega arith, here)

-- a count falls by one where the element that went passed
pub count_by-without : (p : ℕ → Bool) (xs : List ℕ) (x : ℕ) → Contains xs x → count_by p (without xs x) + cond (p x) 1 0 ≡ count_by p xs
count_by-without p [] x h = absurd (omega (arith, h.1))
count_by-without p (y ∷ ys) x h = by_test (eqb y x) refl (λ other. count_by-without p ys x (contains_cases y ys x h other))
  where
    by_test : (b : Bool) → eqb y x ≡ b → (eqb y x ≡ false → count_by p (without ys x) + cond (p x) 1 0 ≡ count_by p ys)
        → count_by p (cond b ys (y ∷ without ys x)) + cond (p x) 1 0 ≡ count_by p (y ∷ ys)
    by_test true same rest = rw (eqb-true y x same) (omega (arith, count_by-cons p x ys))
    by_test false other rest = omega (arith, rest other, count_by-cons p y ys, count_by-cons p y (without ys x))

-- the list grows no longer
pub length-without : (xs : List ℕ) (x : ℕ) → length (without xs x) ≤ length xs
length-without [] x = omega arith
length-without (y ∷ ys) x = by_test (eqb y x) (length-without ys x)
  where
    by_test : (b : Bool) → length (without ys x) ≤ length ys → length (cond b ys (y ∷ without ys x)) ≤ suc (length ys)
    by_test true rest = omega arith
    by_test false rest = omega (arith, rest)

-- what holds of each goes on to hold
pub All-without : (P : ℕ → Type 0) (xs : List ℕ) (x : ℕ) → All P xs → All P (without xs x)
All-without P [] x h = h
All-without P (y ∷ ys) x h = by_test (eqb y x) (All-without P ys x (All-tail P y ys h))
  where
    by_test : (b : Bool) → All P (without ys x) → All P (cond b ys (y ∷ without ys x))
    by_test true rest = All-tail P y ys h
    by_test false rest = All-cons P y (without ys x) (All-head P y ys h) rest

-- rising lists, by the first element and the rest
rising-cons : (x : ℕ) (xs : List ℕ) → All (λ y. x ≤ y) xs → IsNonDecreasing xs → IsNonDecreasing (x ∷ xs)
rising-cons x xs above h zero zero d i_le_j low = omega arith
rising-cons x xs above h zero (suc j) d i_le_j low = above j d (omega arith)
rising-cons x xs above h (suc i) zero d i_le_j low = absurd (omega arith)
rising-cons x xs above h (suc i) (suc j) d i_le_j low = h i j d (omega arith) (omega arith)

rising-tail : (x : ℕ) (xs : List ℕ) → IsNonDecreasing (x ∷ xs) → IsNonDecreasing xs
rising-tail x xs h i j d i_le_j low = h (suc i) (suc j) d (omega arith) (omega arith)

rising-head : (x : ℕ) (xs : List ℕ) → IsNonDecreasing (x ∷ xs) → All (λ y. x ≤ y) xs
rising-head x xs h k d low = h 0 (suc k) d (omega arith) (omega arith)

-- the list goes on to rise
pub IsNonDecreasing-without : (xs : List ℕ) (x : ℕ) → IsNonDecreasing xs → IsNonDecreasing (without xs x)
IsNonDecreasing-without [] x h = h
IsNonDecreasing-without (y ∷ ys) x h = by_test (eqb y x) (IsNonDecreasing-without ys x (rising-tail y ys h))
  where
    by_test : (b : Bool) → IsNonDecreasing (without ys x) → IsNonDecreasing (cond b ys (y ∷ without ys x))
    by_test true rest = rising-tail y ys h
    by_test false rest = rising-cons y (without ys x) (All-without (λ z. y ≤ z) ys x (rising-head y ys h)) rest

-- ---- counts

-- tests that agree on a list count alike
pub count_by-agrees : (p q : ℕ → Bool) (xs : List ℕ) → All (λ n. p n ≡ q n) xs → count_by p xs ≡ count_by q xs
count_by-agrees p q [] h = refl
count_by-agrees p q (x ∷ xs) h =
    rw (
      count_by-cons p x xs,
      count_by-cons q x xs,
      All-head (λ n. p n ≡ q n) x xs h,
      count_by-agrees p q xs
          (All-tail (λ n. p n ≡ q n) x xs h),
    ) refl

-- a test that fails everywhere counts nothing
pub count_by-none : (p : ℕ → Bool) (xs : List ℕ) → All (λ n. p n ≡ false) xs → count_by p xs ≡ 0
count_by-none p [] h = refl
count_by-none p (x ∷ xs) h =
    rw (count_by-cons p x xs, All-head (λ n. p n ≡ false) x xs h, count_by-none p xs (All-tail (λ n. p n ≡ false) x xs h)) refl

-- .. and the other way round
pub none_by_count : (p : ℕ → Bool) (xs : List ℕ) → count_by p xs ≡ 0 → All (λ n. p n ≡ false) xs
none_by_count p [] h = All-nil (λ n. p n ≡ false)
none_by_count p (x ∷ xs) h =
    All-cons (λ n. p n ≡ false) x xs (fails (p x) (sym (count_by-cons p x xs) ∙ h))
    (none_by_count p xs (omega (arith, h, count_by-cons p x xs)))
  where
    fails : (b : Bool) → cond b 1 0 + count_by p xs ≡ 0 → b ≡ false
    fails true some = absurd (omega (arith, some))
    fails false none = refl

-- a test that passes everywhere counts all
count_by-all : (p : ℕ → Bool) (xs : List ℕ) → All (λ n. p n ≡ true) xs → count_by p xs ≡ length xs
count_by-all p [] h = refl
count_by-all p (x ∷ xs) h =
    rw (count_by-cons p x xs, All-head (λ n. p n ≡ true) x xs h, count_by-all p xs (All-tail (λ n. p n ≡ true) x xs h)) (omega arith)

-- at or below b is below the next
same_test : (m b n : ℕ) → n ≡ b + 1 → leb m b ≡ ltb m n
same_test m b n e = by_cases (cases_lt m n)
  where
    by_cases : (m < n) ⊎ (n ≤ m) → leb m b ≡ ltb m n
    by_cases (inl lt) = le-leb m b (omega arith) ∙ sym (lt-ltb m n lt)
    by_cases (inr le) = lt-leb m b (omega arith) ∙ sym (le-ltb m n le)

-- a number is below another or not
either_way : (m n : ℕ) → cond (ltb m n) 1 0 + cond (leb n m) 1 0 ≡ 1
either_way m n = by_cases (cases_lt m n)
  where
    by_cases : (m < n) ⊎ (n ≤ m) → cond (ltb m n) 1 0 + cond (leb n m) 1 0 ≡ 1
    by_cases (inl lt) = rw (lt-ltb m n lt, lt-leb n m lt) refl
    by_cases (inr le) = rw (le-ltb m n le, le-leb n m le) refl

-- each of a list is below an epoch or not
older_or_newer : (epoch : ℕ) (xs : List ℕ) → count_by (λ n. ltb n epoch) xs + count_by (λ n. leb epoch n) xs ≡ length xs
older_or_newer epoch [] = refl
older_or_newer epoch (x ∷ xs) =
    omega (arith, either_way x epoch, older_or_newer epoch xs, count_by-cons (λ n. ltb n epoch) x xs, count_by-cons (λ n. leb epoch n) x xs)

-- each processor inside is counted once
pub number_older-number_newer : (t : Tracking) → number_older t + number_newer t ≡ length t.noted
number_older-number_newer t = older_or_newer t.epoch t.noted

-- ---- entering

-- who enters is no older one
pub number_older-entered : (t : Tracking) → number_older (entered t) ≡ number_older t
number_older-entered t = rw (sum_by_push, le-ltb t.epoch t.epoch (omega arith)) (omega arith)

-- .. but one of the others
pub number_newer-entered : (t : Tracking) → number_newer (entered t) ≡ number_newer t + 1
number_newer-entered t = rw (sum_by_push, le-leb t.epoch t.epoch (omega arith)) refl

-- a track starts as each track is
pub IsTracking-starting_at : (epoch : ℕ) → 1 ≤ epoch → epoch ≤ LAST_EPOCH → IsTracking (starting_at epoch)
IsTracking-starting_at epoch positive limited =
    record {
      positive = positive;
      limited = limited;
      few = omega arith;
      rising = λ i j d i_le_j low. absurd (omega arith);
      recent = All-nil (IsRecent epoch);
    }

-- entering keeps each noted epoch the epoch or the one before it, in rising order
pub IsTracking-entered : (t : Tracking) → length t.noted < PROCESSORS → IsTracking t → IsTracking (entered t)
IsTracking-entered t room h = record {
  positive = h.positive;
  limited = h.limited;
  few = rw length_push (omega arith);
  rising = IsNonDecreasingBy-push (λ n. n) t.noted t.epoch h.rising (λ d some. (h.recent (length t.noted - 1) d (omega arith)).0);
  recent = All-push (IsRecent t.epoch) t.noted t.epoch h.recent (omega arith, omega arith);
}

-- ---- leaving

-- the older ones are one fewer where one of them leaves, and else as many
pub number_older-left : (t : Tracking) (epoch : ℕ) → Contains t.noted epoch
    → number_older (left t epoch) + cond (ltb epoch t.epoch) 1 0 ≡ number_older t
number_older-left t epoch inside = count_by-without (λ n. ltb n t.epoch) t.noted epoch inside

-- .. and so with the others
pub number_newer-left : (t : Tracking) (epoch : ℕ) → Contains t.noted epoch
    → number_newer (left t epoch) + cond (leb t.epoch epoch) 1 0 ≡ number_newer t
number_newer-left t epoch inside = count_by-without (λ n. leb t.epoch n) t.noted epoch inside

-- leaving keeps each noted epoch the epoch or the one before it, in rising order
pub IsTracking-left : (t : Tracking) (epoch : ℕ) → IsTracking t → IsTracking (left t epoch)
IsTracking-left t epoch h = record {
  positive = h.positive;
  limited = h.limited;
  few = omega (arith, length-without t.noted epoch, h.few);
  rising = IsNonDecreasing-without t.noted epoch h.rising;
  recent = All-without (IsRecent t.epoch) t.noted epoch h.recent;
}

-- ---- tracking

-- no processor inside has entered in the new epoch
pub number_newer-tracked : (t : Tracking) → IsTracking t → number_newer (tracked t) ≡ 0
number_newer-tracked t h = count_by-none (λ n. leb (t.epoch + 1) n) t.noted
    (λ k d low. lt-leb (t.epoch + 1) (get_or t.noted k d) (omega (arith, (h.recent k d low).0)))

-- a new epoch makes older ones of all processors inside
pub number_older-tracked : (t : Tracking) → IsTracking t → number_older (tracked t) ≡ length t.noted
number_older-tracked t h = omega (arith, number_older-number_newer (tracked t), number_newer-tracked t h)

-- where no older one is inside, tracking keeps each noted epoch the epoch or the one before it
pub IsTracking-tracked : (t : Tracking) → number_older t ≡ 0 → t.epoch < LAST_EPOCH → IsTracking t → IsTracking (tracked t)
IsTracking-tracked t none more h = record {
  positive = omega arith;
  limited = omega arith;
  few = h.few;
  rising = h.rising;
  recent = λ k d low.
      let present = ltb-false (get_or t.noted k d) t.epoch (none_by_count (λ n. ltb n t.epoch) t.noted none k d low) in
      (omega (arith, (h.recent k d low).0), omega (arith, present));
}

-- ---- the two counts say all

-- how many have an epoch at or below one, by the two counts
pub number_up_to-counts : (t : Tracking) (block : ℕ) → IsTracking t
    → number_up_to t block ≡ cond (leb t.epoch block) (number_older t + number_newer t) (cond (leb t.epoch (block + 1)) (number_older t) 0)
number_up_to-counts t block h = by_tests (leb t.epoch block) refl (leb t.epoch (block + 1)) refl
  where
    by_tests : (x : Bool) → leb t.epoch block ≡ x → (y : Bool) → leb t.epoch (block + 1) ≡ y
        → number_up_to t block ≡ cond x (number_older t + number_newer t) (cond y (number_older t) 0)
    by_tests true now y next =
        rw (number_older-number_newer t)
        (count_by-all (λ n. leb n block) t.noted (λ k d low.
        le-leb (get_or t.noted k d) block (omega (arith, (h.recent k d low).0, leb-true _ _ now))))
    by_tests false now true next =
        let is : t.epoch ≡ block + 1 = omega (arith, leb-false _ _ now, leb-true _ _ next) in
        count_by-agrees (λ n. leb n block) (λ n. ltb n t.epoch) t.noted (λ k d low. same_test (get_or t.noted k d) block t.epoch is)
    by_tests false now false next =
        count_by-none (λ n. leb n block) t.noted (λ k d low.
        lt-leb (get_or t.noted k d) block (omega (arith, (h.recent k d low).1, leb-false _ _ next)))

-- no noted epoch is above the present one
pub all_up_to_now : (t : Tracking) → IsTracking t → number_up_to t t.epoch ≡ length t.noted
all_up_to_now t h = count_by-all (λ n. leb n t.epoch) t.noted (λ k d low. le-leb (get_or t.noted k d) t.epoch (h.recent k d low).0)

-- where no processor inside has an older epoch, and one is inside, the present one is noted
pub some_at_now : (t : Tracking) → IsTracking t → number_older t ≡ 0 → 0 < number_up_to t t.epoch → Contains t.noted t.epoch
some_at_now t h none some =
    let low : 0 < length t.noted = omega (arith, all_up_to_now t h, some) in
    let first = ltb-false (get_or t.noted 0 t.epoch) t.epoch (none_by_count (λ n. ltb n t.epoch) t.noted none 0 t.epoch low) in
    (0, low, omega (arith, (h.recent 0 t.epoch low).0, first))

-- a rising list of epochs that are an epoch or the one before it is its two counts
counted : (epoch : ℕ) (xs : List ℕ) → IsNonDecreasing xs → All (IsRecent epoch) xs
    → xs ≡ noted_by epoch (count_by (λ n. ltb n epoch) xs) (count_by (λ n. leb epoch n) xs)
counted epoch [] rising recent = refl
counted epoch (x ∷ xs) rising recent =
    by_cases (cases_lt x epoch) (counted epoch xs (rising-tail x xs rising) (All-tail (IsRecent epoch) x xs recent))
  where
    by_cases : (x < epoch) ⊎ (epoch ≤ x) → xs ≡ noted_by epoch (count_by (λ n. ltb n epoch) xs) (count_by (λ n. leb epoch n) xs)
        → x ∷ xs ≡ noted_by epoch (count_by (λ n. ltb n epoch) (x ∷ xs)) (count_by (λ n. leb epoch n) (x ∷ xs))
    by_cases (inl older) rest =
        let first : x ≡ epoch - 1 = omega (arith, (recent 0 x (omega arith)).1) in
        rw (
          count_by-cons (λ n. ltb n epoch) x xs,
          count_by-cons (λ n. leb epoch n) x xs,
          lt-ltb x epoch older,
          lt-leb epoch x older,
          one-add,
          zero-add,
        )
        (ap₂ ◌∷◌ first rest)
    by_cases (inr newer) rest =
        let first : x ≡ epoch = omega (arith, (recent 0 x (omega arith)).0) in
        let none = count_by-none (λ n. ltb n epoch) xs
        (λ k d low. le-ltb (get_or xs k d) epoch (omega (arith, rising-head x xs rising k d low))) in
        rw (
          count_by-cons (λ n. ltb n epoch) x xs,
          count_by-cons (λ n. leb epoch n) x xs,
          le-ltb x epoch newer,
          le-leb epoch x newer,
          one-add,
          zero-add,
          none,
        )
        (ap₂ ◌∷◌ first (rw none at rest))

-- the noted epochs, by the two counts
pub noted-counts : (t : Tracking) → IsTracking t → t.noted ≡ noted_by t.epoch (number_older t) (number_newer t)
noted-counts t h = counted t.epoch t.noted h.rising h.recent

-- ---- drained

-- drained, where an epoch has begun since the block and no processor inside has one at or below the block's
pub IsDrained-from_count : (t : Tracking) (block : ℕ) → block < t.epoch → number_up_to t block ≡ 0 → IsDrained t block
IsDrained-from_count t block began none =
    record {
      began = began;
      entered_since = λ k d low.
          leb-false (get_or t.noted k d) block (none_by_count (λ n. leb n block) t.noted none k d low);
    }

-- .. and the other way round
pub number_up_to-drained : (t : Tracking) (block : ℕ) → IsDrained t block → number_up_to t block ≡ 0
number_up_to-drained t block h =
    count_by-none (λ n. leb n block) t.noted (λ k d low. lt-leb (get_or t.noted k d) block (h.entered_since k d low))

-- a drained page stays drained, whoever enters, leaves or tracks
pub IsDrained-entered : (t : Tracking) (block : ℕ) → IsDrained t block → IsDrained (entered t) block
IsDrained-entered t block h = record { began = h.began; entered_since = All-push (λ n. block < n) t.noted t.epoch h.entered_since h.began }

pub IsDrained-left : (t : Tracking) (epoch block : ℕ) → IsDrained t block → IsDrained (left t epoch) block
IsDrained-left t epoch block h = record { began = h.began; entered_since = All-without (λ n. block < n) t.noted epoch h.entered_since }

pub IsDrained-tracked : (t : Tracking) (block : ℕ) → IsDrained t block → IsDrained (tracked t) block
IsDrained-tracked t block h = record { began = omega (arith, h.began); entered_since = h.entered_since }
