-- Each kind of step keeps the rule of the words.
use Rattle.std.proofs.Common.{◌≡◌, ◌≢◌, ℕ, zero, suc, ◌<◌, List, [], ◌∷◌, ◌++◌, map, length, replicate, get_or}
use Rattle.std.proofs.Common.{set, true, false, true≢false, refl, sym, ap, ◌∙◌, subst, ⊎_elim, arith, length-set, get_or-set_same}
use Rattle.std.proofs.Common.{get_or-set_other}
use Rattle.std.proofs.Math.ListN.{get_or-map}
use Rattle.std.proofs.lemmas.List.{map-set, set-get_or}
use mathlib.Core.Logic.{dite}
use mathlib.Core.Option.{none, some, some-injective, some-ne-none}
use native.Mathlib.Decide.{ℕ_discrete}
use lib.ListN.{get_elem?}
use Rattle.atomic_table.specs.Table.{step, keeps, Allows, Splits, opening}
use Rattle.atomic_table.proofs.Lists.{at_set, set_here, set_else, set_again, at_longer, at_snoc}
use Rattle.epoch_words.specs.declared.seen.Seen.{Seen}
use Rattle.epoch_words.specs.declared.rule.View.{View}
use Rattle.epoch_words.specs.inner.Seen.{seen, word_of, seen_in, IsLawful, Changes, IsNotAhead}
use Rattle.epoch_words.specs.inner.Rule.{Seat, at, hardware, pass, SeatFits, AreWordsKept, Writes, Observes}
use Rattle.epoch_words.proofs.SeenLaws.{seen_in-word_of, not_ahead_of_itself, not_ahead_further, changes}

-- ---- lists

is_pass : false ≡ true → ⊥
is_pass e = true≢false (sym e)

low : {A : Type 0} (l : List A) (i : ℕ) (a : A) → get_elem? l i ≡ some a → i < length l
low [] i a e = absurd (some-ne-none a (sym e))
low (x ∷ xs) zero a e = omega arith
low (x ∷ xs) (suc i) a e = let rest = low xs i a e in omega arith

-- what is seen of each enclave, where that of one is set: of this one the new, of each other the old
pub at_each : (P : ℕ → Seen → Type 0) (all : List Seen) (i : ℕ) (s : Seen) → i < length all → P i s → ((j : ℕ) → j ≢ i → P j (at all j))
    → (j : ℕ) → P j (at (set all i s) j)
at_each P all i s inside here others j = dite (ℕ_discrete j i)
    (λ same. subst (λ k. P k (at (set all i s) k)) (sym same) (subst (P i) (sym (get_or-set_same all i s (seen 0 0 0) inside)) here))
    (λ other. subst (P j) (sym (get_or-set_other all i j s (seen 0 0 0) other)) (others j other))

-- of each seat, where the view of one is set
views_each : (P : ℕ → View → Type 0) (views : List View) (id : ℕ) (w : View) → P id w
    → ((j : ℕ) (v : View) → j ≢ id → get_elem? views j ≡ some v → P j v)
    → (j : ℕ) (v : View) → get_elem? (set views id w) j ≡ some v → P j v
views_each P views id w mine others j v e =
    ⊎_elim
    (λ (t : (j ≡ id) × (w ≡ v)). subst (λ (y : ℕ × View). P y.0 y.1) (λ i. (sym t.0 i, t.1 i)) mine)
    (λ (t : (j ≢ id) × (get_elem? views j ≡ some v)). others j v t.0 t.1)
    (at_set views id j w v e)

-- ---- the hardware seat stores a change

pub writes : (slots id : ℕ) (me : Seat) (i r : ℕ) (known : List Seen) → me.0 ≡ hardware known → i < length known → word_of (seen_in r) ≡ r
    → Changes (at known i) (seen_in r)
    → Allows AreWordsKept slots id me i (λ _. r) (λ _. Writes (step slots i r 0 none) me r)
writes slots id me i r known is inside back change s k _ here _ =
    let x : Seen = seen_in r in
    let here' : get_elem? s.views id ≡ some (hardware known) = here ∙ ap some is in
    let owns : id ≡ k.owner = (k.each id (hardware known) here').alone refl in
    let same : known ≡ k.now = ap (λ (v : View). v.seen)
    (some-injective _ _ (sym here' ∙ subst (λ j. get_elem? s.views j ≡ some (hardware k.now)) (sym owns) k.there)) in
    let now : List Seen = set k.now i x in
    let inside' : i < length k.now = subst (λ (l : List Seen). i < length l) same inside in
    let change' : Changes (at k.now i) x = subst (λ (l : List Seen). Changes (at l i) x) same change in
    let after : IsNotAhead (at k.now i) x × IsLawful x = changes (at k.now i) x change' (k.lawful i) in (
      hardware now,
      keeps,
      tt,
      record {
        owner = id;
        now = now;
        there = set_here s.views id (hardware now) (low s.views id _ here);
        lawful = at_each (λ _ y. IsLawful y) k.now i x inside' after.1 (λ j _. k.lawful j);
        words = ap (λ (l : List ℕ). set l i r) k.words ∙ (ap (set (map word_of k.now) i) (sym back) ∙ sym (map-set word_of k.now i x));
        each = views_each (SeatFits id now) s.views id (hardware now) record
            { alone = λ _. refl; wide = refl; not_ahead = λ j. not_ahead_of_itself (at now j) }
            (λ j v apart e. let old = k.each j v e in record {
              alone = λ t. old.alone t ∙ sym owns;
              wide = old.wide ∙ sym (length-set k.now i x);
              not_ahead = at_each (λ n y. IsNotAhead (at v.seen n) y) k.now i x inside' (not_ahead_further _ _ _ (old.not_ahead i) after.0)
                  (λ n _. old.not_ahead n);
            });
      },
      (
        subst (λ (v : View). Changes (at v.seen i) x) (sym is) change,
        ap (λ (l : List Seen). hardware (set l i x)) (sym same)
            ∙ ap (λ (v : View). hardware (set v.seen i x)) (sym is),
      ),
    )

-- ---- a pass looks at a word

pub observes : (slots id : ℕ) (me : Seat) (i : ℕ) → me.0 ≡ pass me.0.seen → i < length me.0.seen
    → Allows AreWordsKept slots id me i (λ n. n) (Observes (step slots i 0 0 none) me)
observes slots id me i reads inside s k _ here _ =
    let old = k.each id me.0 here in
    let x : Seen = at k.now i in
    let found : get_or s.words i 0 ≡ word_of x = ap (λ (l : List ℕ). get_or l i 0) k.words ∙ get_or-map word_of k.now i (seen 0 0 0) in
    let says : seen_in (get_or s.words i 0) ≡ x = ap seen_in found ∙ seen_in-word_of x (k.lawful i) in
    let w : View = pass (set me.0.seen i x) in
    let apart : k.owner ≢ id = λ e. is_pass (sym (ap (λ (v : View). v.is_hardware) reads)
    ∙ ap (λ (v : View). v.is_hardware) (some-injective _ _
    (sym here ∙ subst (λ j. get_elem? s.views j ≡ some (hardware k.now)) e k.there))) in (
      w,
      keeps,
      tt,
      record {
        owner = k.owner;
        now = k.now;
        there = set_else s.views id k.owner w apart ∙ k.there;
        lawful = k.lawful;
        words = set-get_or s.words i 0 ∙ k.words;
        each = views_each (SeatFits k.owner k.now) s.views id w
            record {
              alone = λ t. absurd (is_pass t);
              wide = length-set me.0.seen i x ∙ old.wide;
              not_ahead = at_each (λ n y. IsNotAhead y (at k.now n)) me.0.seen i x inside (not_ahead_of_itself x)
                  (λ n _. old.not_ahead n);
            }
            (λ j v _ e. k.each j v e);
      },
      (
        subst IsLawful (sym says) (k.lawful i),
        subst (IsNotAhead (at me.0.seen i)) (sym says) (old.not_ahead i),
        ap
            (λ (z : Seen). pass (set me.0.seen i z)) (sym says),
      ),
    )

-- ---- a pass is split off

pub tells : (id : ℕ) (v : View) → Splits AreWordsKept id v v (pass v.seen)
tells id v s k here =
    let old = k.each id v here in
    let same = set_again s.views id v here in
    subst (λ (views : List View). AreWordsKept record { words = s.words; homes = s.homes; views = views ++ pass v.seen ∷ [] })
    (sym same) record {
      owner = k.owner;
      now = k.now;
      there = at_longer s.views (pass v.seen ∷ []) k.owner (hardware k.now) k.there;
      lawful = k.lawful;
      words = k.words;
      each = λ j u e. ⊎_elim (λ (t : get_elem? s.views j ≡ some u). k.each j u t)
          (λ (t : pass v.seen ≡ u). subst (SeatFits k.owner k.now j) t record
          { alone = λ z. absurd (is_pass z); wide = old.wide; not_ahead = old.not_ahead }) (at_snoc s.views (pass v.seen) u j e);
    }

-- ---- the start

opens : (words : List ℕ) (now : List Seen) → words ≡ map word_of now → ((i : ℕ) → IsLawful (at now i))
    → AreWordsKept (opening words [] (hardware now))
opens words now says lawful = record {
  owner = 0;
  now = now;
  there = refl;
  lawful = lawful;
  words = says;
  each = one;
}
  where
    one : (seat : ℕ) (v : View) → get_elem? (hardware now ∷ []) seat ≡ some v → SeatFits 0 now seat v
    one zero v e = subst (SeatFits 0 now 0) (some-injective _ _ e) record
        { alone = λ _. refl; wide = refl; not_ahead = λ i. not_ahead_of_itself (at now i) }
    one (suc j) v e = absurd (some-ne-none v (sym e))

words_alike : (n : ℕ) (s : Seen) → replicate n (word_of s) ≡ map word_of (replicate n s)
words_alike zero s = refl
words_alike (suc n) s = ap (λ (l : List ℕ). word_of s ∷ l) (words_alike n s)

nothing_seen : IsLawful (seen 0 0 0)
nothing_seen = record { limited = omega arith; few = omega arith }

pub lawful_alike : (n : ℕ) (s : Seen) → IsLawful s → (i : ℕ) → IsLawful (at (replicate n s) i)
lawful_alike zero s h i = nothing_seen
lawful_alike (suc n) s h zero = h
lawful_alike (suc n) s h (suc i) = lawful_alike n s h i

pub opens_alike : (n : ℕ) (s : Seen) (words : List ℕ) (now : List Seen) → words ≡ replicate n (word_of s) → now ≡ replicate n s → IsLawful s
    → AreWordsKept (opening words [] (hardware now))
opens_alike n s words now words_are now_is lawful =
    opens words now (words_are ∙ (words_alike n s ∙ ap (map word_of) (sym now_is)))
    (subst (λ (all : List Seen). (i : ℕ) → IsLawful (at all i)) (sym now_is) (lawful_alike n s lawful))
