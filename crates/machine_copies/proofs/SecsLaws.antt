-- The frame that holds an enclave's SECS, and that no page of the enclave is there without it.
use Rattle.std.proofs.Common.{◌≡◌, ℕ, zero, suc, ◌+◌, ◌<◌, ◌==◌, Bool, true, false, cond, refl, sym, ap, ◌∙◌}
use Rattle.std.proofs.Common.{nat_lt, arith}
use Rattle.std.proofs.lemmas.Bool.{cond_both, eqb-true, eqb-false, eq-eqb, false≢true, ltb-true, ltb-false}
use Rattle.sgx_types.specs.Counts.{count_below}
use Rattle.sgx_types.proofs.LeastLaws.{IsLeast, is_least, least_is}
use Rattle.sgx_rules.specs.Frames.{Content, Free, IsVa, SecsOf, Holds, IsLoading, children, is_child, is_secs_of}
use Rattle.sgx_types.proofs.Truths.{apart}
use Rattle.machine_copies.specs.inner.Away.{SecsCovers, SecsIsIn}

-- ---- frames and an enclave's SECS

-- a SECS that is in stays so where another frame changes that does not hold it and is not on its way out
pub in_still : (frames : ℕ) (held : ℕ → Content) (sealing : ℕ → Bool) (f : ℕ) (c : Content) (e : ℕ) → f < frames
    → is_secs_of (held f) e ≡ false → sealing f ≡ false → SecsIsIn frames held sealing e
    → SecsIsIn frames (λ n. cond (f == n) c (held n)) sealing e
in_still frames held sealing f c e low other settled h = by_test (is_secs_of c e) refl (nat_lt f h.frame) refl
  where
    was : IsLeast (λ n. is_secs_of (held n) e) frames h.frame
    was = is_least (λ n. is_secs_of (held n) e) frames h.frame h.there

    now : ℕ → Bool
    now n = is_secs_of (cond (f == n) c (held n)) e

    elsewhere : (n : ℕ) → (f == n) ≡ false → now n ≡ is_secs_of (held n) e
    elsewhere n isnt = rw isnt refl

    away : (f == h.frame) ≡ false
    away = apart f h.frame (λ same. false≢true (sym other ∙ ap (λ n. is_secs_of (held n) e) same ∙ was.passes))

    -- where the frame comes after it, or holds no SECS of the enclave, nothing before it does
    kept : ((j : ℕ) → j < h.frame → (f == j) ≡ true → now j ≡ false) → SecsIsIn frames (λ n. cond (f == n) c (held n)) sealing e
    kept here = record {
      frame = h.frame;
      there = least_is now frames h.frame (record {
        below = was.below;
        passes = elsewhere h.frame away ∙ was.passes;
        least = λ j before. by_place j before (f == j) refl;
      });
      stays = h.stays;
    }
      where
        by_place : (j : ℕ) → j < h.frame → (b : Bool) → (f == j) ≡ b → now j ≡ false
        by_place j before true at = here j before at
        by_place j before false at = elsewhere j at ∙ was.least j before

    by_test : (b : Bool) → is_secs_of c e ≡ b → (earlier : Bool) → nat_lt f h.frame ≡ earlier
        → SecsIsIn frames (λ n. cond (f == n) c (held n)) sealing e
    by_test false none earlier e' = kept (λ j before at. rw at none)
    by_test true one false e' = kept (λ j before at.
        let late = ltb-false f h.frame e' in let same = eqb-true f j at in absurd (omega (arith, late, same, before)))
    by_test true one true e' = record {
      frame = f;
      there = least_is now frames f (record {
        below = low;
        passes = rw (eq-eqb f f refl) one;
        least = λ j before. elsewhere j (apart f j (λ same. omega (arith, same, before)))
            ∙ was.least j (let first = ltb-true f h.frame e' in omega (arith, first, before));
      });
      stays = settled;
    }

-- a SECS that is in stays so where a frame comes free that is on its way out, or does not hold it
pub in_freed : (frames : ℕ) (held : ℕ → Content) (sealing : ℕ → Bool) (f e : ℕ) → (h : SecsIsIn frames held sealing e)
    → (f == h.frame) ≡ false
    → SecsIsIn frames (λ n. cond (f == n) Free (held n)) (λ n. cond (f == n) false (sealing n)) e
in_freed frames held sealing f e h away = record {
  frame = h.frame;
  there = least_is (λ n. is_secs_of (cond (f == n) Free (held n)) e) frames h.frame (record {
    below = was.below;
    passes = rw away was.passes;
    least = λ j before. cond_both (f == j) Free (held j) (λ v. is_secs_of v e ≡ false) (λ _. refl) (λ _. was.least j before);
  });
  stays = rw away h.stays;
}
  where
    was : IsLeast (λ n. is_secs_of (held n) e) frames h.frame
    was = is_least (λ n. is_secs_of (held n) e) frames h.frame h.there

-- ---- what covers pages

-- a frame that held no SECS and was not on its way out comes to hold something: a page only where its SECS is in
pub put_covers : (frames : ℕ) (held : ℕ → Content) (sealing : ℕ → Bool) (f : ℕ) (c : Content) → f < frames
    → ((e : ℕ) → is_secs_of (held f) e ≡ false) → sealing f ≡ false
    → ((e : ℕ) → is_child c e ≡ true → SecsIsIn frames held sealing e) → SecsCovers frames held sealing
    → SecsCovers frames (λ n. cond (f == n) c (held n)) sealing
put_covers frames held sealing f c low none settled comes covers e m =
    cond_both (f == m) c (held m) (λ v. is_child v e ≡ true → SecsIsIn frames (λ n. cond (f == n) c (held n)) sealing e)
    (λ _ is. in_still frames held sealing f c e low (none e) settled (comes e is))
    (λ _ is. in_still frames held sealing f c e low (none e) settled (covers e m is))

-- a frame comes free that is on its way out
pub out_covers : (frames : ℕ) (held : ℕ → Content) (sealing : ℕ → Bool) (f : ℕ) → sealing f ≡ true → SecsCovers frames held sealing
    → SecsCovers frames (λ n. cond (f == n) Free (held n)) (λ n. cond (f == n) false (sealing n))
out_covers frames held sealing f leaves covers e m =
    cond_both (f == m) Free (held m)
    (λ v. is_child v e ≡ true → SecsIsIn frames (λ n. cond (f == n) Free (held n)) (λ n. cond (f == n) false (sealing n)) e)
    (λ _ is. cc is)
    (λ _ is. let h = covers e m is in
    in_freed frames held sealing f e h (apart f h.frame (λ same. false≢true (sym h.stays ∙ ap sealing (sym same) ∙ leaves))))

-- where no frame is on its way out more than before, a page's SECS is in still
abbrev Counted : ℕ → (ℕ → Content) → ℕ → Type 0
Counted frames held e = (m : ℕ) → is_child (held m) e ≡ true → m < frames

-- what is counted as none is none
none_counted : (test : ℕ → Bool) (n k : ℕ) → k < n → test k ≡ true → count_below test n ≡ 0 → ⊥
unfolding count_below
none_counted test zero k low is none = omega (arith, low)
none_counted test (suc n) k low is none = by_test (test n) refl none (k == n) refl (none_counted test n k)
  where
    by_test : (b : Bool) → test n ≡ b → cond b 1 0 + count_below test n ≡ 0 → (last : Bool) → (k == n) ≡ last
        → (k < n → test k ≡ true → count_below test n ≡ 0 → ⊥) → ⊥
    by_test true here sum last e before = omega (arith, sum)
    by_test false here sum true e before = false≢true (sym here ∙ ap test (sym (eqb-true k n e)) ∙ is)
    by_test false here sum false e before = before (omega (arith, low, eqb-false k n e)) is (omega (arith, sum))

-- a page starts to go out, a SECS only where no frame holds or loads a page of its enclave
pub start_covers : (frames : ℕ) (held : ℕ → Content) (sealing : ℕ → Bool) (f : ℕ)
    → ((e : ℕ) → held f ≡ SecsOf e → children frames held e ≡ 0) → ((e : ℕ) → Counted frames held e) → SecsCovers frames held sealing
    → SecsCovers frames held (λ n. cond (f == n) true (sealing n))
start_covers frames held sealing f childless counted covers e m is = record {
  frame = h.frame;
  there = h.there;
  stays = rw (apart f h.frame other) h.stays;
}
  where
    h : SecsIsIn frames held sealing e
    h = covers e m is

    secs_is : (c : Content) → is_secs_of c e ≡ true → c ≡ SecsOf e
    secs_is (SecsOf x) k = ap SecsOf (eqb-true x e k)
    secs_is Free k = cc k
    secs_is (IsVa number) k = cc k
    secs_is (Holds page kind perm) k = cc k
    secs_is (IsLoading page) k = cc k

    other : f ≡ h.frame → ⊥
    other same =
        let passes = (is_least (λ n. is_secs_of (held n) e) frames h.frame h.there).passes in
        let here : held f ≡ SecsOf e = ap held same ∙ secs_is (held h.frame) passes in
        none_counted (λ n. is_child (held n) e) frames m (counted e m is) is (childless e here)
