-- What one entry more does to the word of an enclave by the entries.
use Rattle.std.proofs.Common.{◌≡◌, ◌==◌, ◌&&◌, ◌<◌, ◌≤◌, ◌+◌, ◌-◌, ◌⊎◌, inl, inr, ℕ, not}
use Rattle.std.proofs.Common.{Bool, true, false, cond, ltb, List, [], length, refl, sym, ap, ◌∙◌, Option, Some, None, IfSome}
use Rattle.std.proofs.Common.{arith}
use Rattle.std.proofs.lemmas.Bool.{cases_lt, eq-eqb, eqb-true, false≢true, le-ltb, lt-ltb}
use Rattle.std.proofs.Math.Bool.{and-false, and-true}
use Rattle.sgx_types.specs.Counts.{count_below}
use Rattle.sgx_rules.specs.declared.entries.Entry.{Entry}
use Rattle.sgx_rules.specs.Epochs.{epoch, is_before, is_in, is_in_before, last_track, older_at}
use Rattle.sgx_rules.specs.inner.Epochs.{newer_at, noted}
use Rattle.sgx_rules.specs.Processors.{Seat, Stay, stay, stay_from}
use Rattle.sgx_types.proofs.CountLaws.{count_below-agrees, count_below-more, count_below-missing, count_below-splits}
use Rattle.sgx_types.proofs.CountLaws.{count_below-zero}
use Rattle.sgx_types.proofs.CountLaws.{one_if, one_of_those}
use Rattle.sgx_rules.proofs.Keystone.{IsNoted, LastTrack, all_noted, last_track_is}
use Rattle.sgx_types.proofs.Truths.{apart}
use Rattle.epoch_words.specs.declared.seen.Seen.{Seen}
use Rattle.epoch_words.specs.inner.Seen.{HasRoom, IsInside, entered, left, seen, starting_at, tracked}
use Rattle.epoch_notes.specs.inner.Notes.{word_by}

-- ---- stays and tracks

-- no track stands at the end
track_past : (past : List Entry) (n : ℕ) → is_before (last_track past n) (length past) ≡ false
track_past past n = by_track (last_track past n) (last_track_is past n)
  where
    by_track : (o : Option ℕ) → LastTrack past n o → is_before o (length past) ≡ false
    by_track None h = refl
    by_track (Some k) h = le-ltb (length past) k (omega (arith, h.below))

-- a stay is of before the last track exactly where its epoch is below the enclave's
pub before_track : (first : ℕ) (past : List Entry) (n m : ℕ) (t : Stay) → IsNoted first past m t → t.seat.enclave ≡ n
    → is_before (last_track past n) t.entered ≡ ltb m (epoch first past n)
before_track first past n m t is same = by_track (last_track past n) (last_track_is past n)
  where
    by_track : (o : Option ℕ) → LastTrack past n o → is_before o t.entered ≡ ltb m (epoch first past n)
    by_track None h = sym (le-ltb m _ (omega (arith, rw same at is.counted, h t.entered)))
    by_track (Some k) h = by_place (cases_lt t.entered k)
      where
        by_place : (t.entered < k) ⊎ (k ≤ t.entered) → ltb t.entered k ≡ ltb m (epoch first past n)
        by_place (inl lt) = lt-ltb _ _ lt ∙ sym (lt-ltb m _ (omega (arith, rw same at is.counted, h.reached t.entered lt)))
        by_place (inr le) = le-ltb _ _ le ∙ sym (le-ltb m _ (omega (arith, rw same at is.counted, h.passed t.entered le)))

abbrev pub is_newer : ℕ → Option ℕ → Option Stay → Bool
is_newer n k o = is_in n o && not (is_in_before n k o)

both : (n : ℕ) (k : Option ℕ) (o : Option Stay) → one_if (is_in_before n k o) + one_if (is_newer n k o) ≡ one_if (is_in n o)
both n k None = refl
both n k (Some t) = one_of_those (t.seat.enclave == n) (is_before k t.entered)

-- all that are inside are older or newer
all_inside : (past : List Entry) (n : ℕ) → older_at past n + newer_at past n ≡ count_below (λ p. is_in n (stay past p)) 16
all_inside past n = count_below-splits _ _ (λ p. is_in n (stay past p)) (λ p. both n (last_track past n) (stay past p)) 16

-- ---- one processor's stay changes

module _ (past : List Entry) (n q : ℕ) (low : q < 16) (k : Option ℕ) (now : Option Stay) where
  abbrev stays : ℕ → Option Stay
  stays p = cond (q == p) now (stay past p)

  -- a test of it
  elsewhere : (test : Option Stay → Bool) (p : ℕ) → (q == p) ≡ false → test (stay past p) ≡ test (stays p)
  elsewhere test p is = rw is refl

  here : (test : Option Stay → Bool) → test (stays q) ≡ test now
  here test = rw (eq-eqb q q refl) refl

  same_count : (test : Option Stay → Bool) → test now ≡ test (stay past q)
      → count_below (λ p. test (stays p)) 16 ≡ count_below (λ p. test (stay past p)) 16
  same_count test alike = count_below-agrees _ _ (λ p. by_place p (q == p) refl) 16
    where
      by_place : (p : ℕ) (b : Bool) → (q == p) ≡ b → test (stays p) ≡ test (stay past p)
      by_place p false is = rw is refl
      by_place p true is = let at : q ≡ p = eqb-true q p is in rw is (alike ∙ ap (λ x. test (stay past x)) at)

  one_more : (test : Option Stay → Bool) → test (stay past q) ≡ false → test now ≡ true
      → count_below (λ p. test (stays p)) 16 ≡ count_below (λ p. test (stay past p)) 16 + 1
  one_more test off on =
      count_below-more (λ p. test (stay past p)) (λ p. test (stays p)) q off (here test ∙ on) (elsewhere test) 16 low

  one_fewer : (test : Option Stay → Bool) → test (stay past q) ≡ true → test now ≡ false
      → count_below (λ p. test (stay past p)) 16 ≡ count_below (λ p. test (stays p)) 16 + 1
  one_fewer test on off =
      count_below-more (λ p. test (stays p)) (λ p. test (stay past p)) q (here test ∙ off) on (λ p is. sym (elsewhere test p is)) 16 low

-- the word of an enclave with one processor's stay changed
abbrev pub word_with : ℕ → List Entry → ℕ → ℕ → Option Stay → Seen
word_with first past n q now =
    seen (epoch first past n) (count_below (λ p. is_in_before n (last_track past n) (cond (q == p) now (stay past p))) 16)
    (count_below (λ p. is_newer n (last_track past n) (cond (q == p) now (stay past p))) 16)

-- ---- the steps

module _ (first : ℕ) (past : List Entry) (n q : ℕ) (low : q < 16) where
  abbrev k : Option ℕ
  k = last_track past n

  abbrev w : Seen
  w = word_by first past n

  as_word : (now : Option Stay) (w' : Seen) → w'.epoch ≡ w.epoch
      → count_below (λ p. is_in_before n k (cond (q == p) now (stay past p))) 16 ≡ w'.older
      → count_below (λ p. is_newer n k (cond (q == p) now (stay past p))) 16 ≡ w'.newer → word_with first past n q now ≡ w'
  as_word now w' epochs olders newers = λ i. seen (sym epochs i) (olders i) (newers i)

  -- a processor that was outside enters
  pub word_entered : (seat : Seat) → stay past q ≡ None
      → word_with first past n q (Some (stay_from past seat)) ≡ cond (seat.enclave == n) (entered w) w
  word_entered seat out = by_enclave (seat.enclave == n) refl
    where
      now : Option Stay
      now = Some (stay_from past seat)

      not_older : is_in_before n k now ≡ false
      not_older = rw (track_past past n) (and-false (seat.enclave == n))

      was_not : (test : Option Stay → Bool) → test None ≡ false → test (stay past q) ≡ false
      was_not test none = rw out none

      older : count_below (λ p. is_in_before n k (cond (q == p) now (stay past p))) 16 ≡ w.older
      older = same_count past n q low k now (is_in_before n k) (not_older ∙ sym (was_not (is_in_before n k) refl))

      by_enclave : (b : Bool) → (seat.enclave == n) ≡ b → word_with first past n q now ≡ cond b (entered w) w
      by_enclave true is =
          as_word now (entered w) refl older
          (one_more past n q low k now (is_newer n k) (was_not (is_newer n k) refl) (rw (is, track_past past n) refl))
      by_enclave false is =
          as_word now w refl older (same_count past n q low k now (is_newer n k) (rw is (sym (was_not (is_newer n k) refl))))

  -- there is room for it
  pub has_room : stay past q ≡ None → HasRoom w
  has_room out =
      let all = all_inside past n in
      let few = count_below-missing (λ p. is_in n (stay past p)) 16 q (ap (is_in n) out) low in
      omega (arith, all, few)

  -- a processor that was inside leaves, which has noted this epoch or the one before
  module _ (t : Stay) (inside : stay past q ≡ Some t) (near : epoch first past t.seat.enclave ≤ noted first past q + 1) where
    is_noted : IsNoted first past (noted first past q) t
    is_noted = rw inside at (all_noted first past q)

    record HasLeft : Type 0 where
      counted : IsInside w (noted first past q)
      word : word_with first past n q None ≡ left w (noted first past q)

    has_left : t.seat.enclave ≡ n → (b : Bool) → ltb (noted first past q) (epoch first past n) ≡ b → HasLeft
    has_left is true lt =
        let old : is_before k t.entered ≡ true = before_track first past n (noted first past q) t is_noted is ∙ lt in
        let here_in : (t.seat.enclave == n) ≡ true = eq-eqb t.seat.enclave n is in
        let fewer = one_fewer past n q low k None (is_in_before n k) (rw (inside, here_in, old) refl) refl in
        let close : epoch first past n ≤ noted first past q + 1 = rw is at near in
        let below : noted first past q < epoch first past n = under (cases_lt (noted first past q) (epoch first past n)) in
        let other : (noted first past q == epoch first past n) ≡ false = apart _ _ (λ same. omega (arith, same, below)) in
        record {
          counted = inr (omega (arith, close, below), omega (arith, fewer));
          word = rw other (as_word None (seen w.epoch (w.older - 1) w.newer) refl (omega (arith, fewer))
              (same_count past n q low k None (is_newer n k) (rw (inside, here_in, old) refl)));
        }
      where
        under : (noted first past q < epoch first past n) ⊎ (epoch first past n ≤ noted first past q)
            → noted first past q < epoch first past n
        under (inl x) = x
        under (inr x) = absurd (false≢true (sym (le-ltb _ _ x) ∙ lt))
    has_left is false lt =
        let new : is_before k t.entered ≡ false = before_track first past n (noted first past q) t is_noted is ∙ lt in
        let here_in : (t.seat.enclave == n) ≡ true = eq-eqb t.seat.enclave n is in
        let fewer = one_fewer past n q low k None (is_newer n k) (rw (inside, here_in, new) refl) refl in
        let same : noted first past q ≡ epoch first past n =
        omega (arith, rw is at is_noted.counted, over (cases_lt (noted first past q) (epoch first past n))) in
        let this : (noted first past q == epoch first past n) ≡ true = eq-eqb _ _ same in
        record {
          counted = inl (same, omega (arith, fewer));
          word = rw this (as_word None (seen w.epoch w.older (w.newer - 1)) refl
              (same_count past n q low k None (is_in_before n k) (rw (inside, here_in, new) refl)) (omega (arith, fewer)));
        }
      where
        over : (noted first past q < epoch first past n) ⊎ (epoch first past n ≤ noted first past q)
            → epoch first past n ≤ noted first past q
        over (inl x) = absurd (false≢true (sym lt ∙ lt-ltb _ _ x))
        over (inr x) = x

    pub is_counted : t.seat.enclave ≡ n → IsInside w (noted first past q)
    is_counted is = (has_left is (ltb (noted first past q) (epoch first past n)) refl).counted

    pub word_left : word_with first past n q None ≡ cond (t.seat.enclave == n) (left w (noted first past q)) w
    word_left = by_enclave (t.seat.enclave == n) refl
      where
        by_enclave : (b : Bool) → (t.seat.enclave == n) ≡ b → word_with first past n q None ≡ cond b (left w (noted first past q)) w
        by_enclave true is = (has_left (eqb-true _ _ is) (ltb (noted first past q) (epoch first past n)) refl).word
        by_enclave false is =
            as_word None w refl (same_count past n q low k None (is_in_before n k) (rw (inside, is) refl))
            (same_count past n q low k None (is_newer n k) (rw (inside, is) refl))

-- an epoch of an enclave begins, where no processor is older
pub word_tracked : (first : ℕ) (past : List Entry) (n enclave : ℕ) → older_at past enclave ≡ 0
    → seen (cond (enclave == n) (epoch first past n + 1) (epoch first past n))
    (count_below (λ p. is_in_before n (cond (enclave == n) (Some (length past)) (last_track past n)) (stay past p)) 16)
    (count_below (λ p. is_newer n (cond (enclave == n) (Some (length past)) (last_track past n)) (stay past p)) 16)
    ≡ cond (enclave == n) (tracked (word_by first past n)) (word_by first past n)
word_tracked first past n enclave calm = by_enclave (enclave == n) refl
  where
    w : Seen
    w = word_by first past n

    all_before : (p : ℕ) (o : Option Stay) → IfSome o (IsNoted first past (noted first past p))
        → is_in_before n (Some (length past)) o ≡ is_in n o
    all_before p None is = refl
    all_before p (Some t) is = rw (lt-ltb t.entered (length past) is.below) (and-true (t.seat.enclave == n))

    older : count_below (λ p. is_in_before n (Some (length past)) (stay past p)) 16 ≡ older_at past n + newer_at past n
    older = count_below-agrees _ _ (λ p. all_before p (stay past p) (all_noted first past p)) 16 ∙ sym (all_inside past n)

    none : (b : Bool) → (b && not b) ≡ false
    none true = refl
    none false = refl

    newer : count_below (λ p. is_newer n (Some (length past)) (stay past p)) 16 ≡ 0
    newer =
        count_below-zero _ 16
        (λ p low. ap (λ b. is_in n (stay past p) && not b) (all_before p (stay past p) (all_noted first past p))
        ∙ none (is_in n (stay past p)))

    by_enclave : (b : Bool) → (enclave == n) ≡ b
        → seen (cond b (epoch first past n + 1) (epoch first past n))
        (count_below (λ p. is_in_before n (cond b (Some (length past)) (last_track past n)) (stay past p)) 16)
        (count_below (λ p. is_newer n (cond b (Some (length past)) (last_track past n)) (stay past p)) 16)
        ≡ cond b (tracked w) w
    by_enclave true is =
        let zeroes : older_at past n ≡ 0 = ap (older_at past) (sym (eqb-true _ _ is)) ∙ calm in
        let all : count_below (λ p. is_in_before n (Some (length past)) (stay past p)) 16 ≡ newer_at past n =
        omega (arith, older, zeroes) in
        λ i. seen (epoch first past n + 1) (all i) (newer i)
    by_enclave false is = refl

-- with no entry each enclave is at the first epoch, with no processor inside
pub word_none : (first n : ℕ) → word_by first [] n ≡ starting_at first
word_none first n = λ i. seen first (count_below-zero _ 16 (λ p low. refl) i) (count_below-zero _ 16 (λ p low. refl) i)
