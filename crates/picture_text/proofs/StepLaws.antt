-- What is read from the steps of one lane.
use Rattle.std.proofs.Common.{◌≡◌, ℕ, ◌||◌, not, Bool, true, false, List, [], ◌∷◌, ◌++◌, Option, Some, None, option_to_list}
use Rattle.std.proofs.Common.{refl, sym, ap, ◌∙◌, append-nil}
use Rattle.std.proofs.lemmas.Bool.{false≢true, eqb-true}
use Rattle.sgx_types.proofs.Pages.{same_pages}
use Rattle.sgx_types.proofs.Truths.{both_true, neither, not_false}
use Rattle.sgx_types.specs.declared.names.Frame.{Frame}
use Rattle.picture_text.specs.declared.events.Lane.{Lane}
use Rattle.picture_text.specs.declared.events.Open.{Open}
use Rattle.picture_text.specs.declared.events.PictureEvent.{PictureEvent}
use Rattle.picture_text.specs.declared.events.Span.{Span}
use Rattle.picture_text.specs.declared.events.Span.TheVariants as spans
use Rattle.picture_text.specs.Events.{ends, begins, steps}
use Rattle.picture_text.specs.Lanes.{same_lane}
use Rattle.picture_text.specs.Open.{same_span, same_spans}
use Rattle.picture_text.specs.Reading.{read_events, stack_of}

-- ---- spans that the test finds the same are equal

same_frames : (f k : Frame) → f.0 ≡ k.0 → f ≡ k
same_frames f k h = λ i. record { 0 = h i }

pub equal_span : (a b : Span) → same_span a b ≡ true → a ≡ b
equal_span (spans.Inside e t) (spans.Inside d s) h =
    let k = both_true _ _ h in λ i. spans.Inside (eqb-true e d k.0 i) (eqb-true t s k.1 i)
equal_span (spans.Holds g) (spans.Holds k) h = ap spans.Holds (same_pages g k h)
equal_span (spans.Awaits g) (spans.Awaits k) h = ap spans.Awaits (same_pages g k h)
equal_span spans.Blocked spans.Blocked h = refl
equal_span spans.Sealing spans.Sealing h = refl
equal_span (spans.At f) (spans.At k) h = ap spans.At (same_frames f k (eqb-true f.0 k.0 h))
equal_span (spans.Loading f) (spans.Loading k) h = ap spans.Loading (same_frames f k (eqb-true f.0 k.0 h))
equal_span (spans.Sealed v) (spans.Sealed w) h = ap spans.Sealed (eqb-true v w h)
equal_span here there h = absurd (false≢true h)

pub equal_spans : (a b : Option Span) → same_spans a b ≡ true → a ≡ b
equal_spans None None h = refl
equal_spans None (Some b) h = absurd (false≢true h)
equal_spans (Some a) None h = absurd (false≢true h)
equal_spans (Some a) (Some b) h = ap (λ (s : Span). Some s) (equal_span a b h)

-- ---- reading

pub read_append : (l : Lane) (xs ys : List PictureEvent) (o : Option (List Span))
    → read_events l (xs ++ ys) o ≡ read_events l ys (read_events l xs o)
read_append l [] ys o = refl
read_append l (x ∷ xs) ys o = read_append l xs ys _

module _ (place : ℕ) (m l : Lane) where
  -- an end that is not one of this lane's changes nothing on it
  miss_ends : (c : Bool) (s : Option Span) (st : List Span) → same_lane m l ≡ false
      → read_events l (ends place m c s) (Some st) ≡ Some st
  miss_ends c None st h = refl
  miss_ends true (Some s) st h = rw h refl
  miss_ends false (Some s) st h = refl

  miss_begins : (c : Bool) (s : Option Span) (st : List Span) → same_lane m l ≡ false
      → read_events l (begins place m c s) (Some st) ≡ Some st
  miss_begins c None st h = refl
  miss_begins true (Some s) st h = rw h refl
  miss_begins false (Some s) st h = refl

  -- where nothing changed, nothing ends or begins
  still_ends : (s : Option Span) (o : Option (List Span)) → read_events l (ends place m false s) o ≡ o
  still_ends None o = refl
  still_ends (Some s) o = refl

  still_begins : (s : Option Span) (o : Option (List Span)) → read_events l (begins place m false s) o ≡ o
  still_begins None o = refl
  still_begins (Some s) o = refl

  -- the innermost span ends
  hit_ends : (s : Option Span) (st : List Span) → same_lane m l ≡ true
      → read_events l (ends place m true s) (Some (option_to_list s ++ st)) ≡ Some st
  hit_ends None st h = refl
  hit_ends (Some s) st h = rw h refl

  hit_begins : (s : Option Span) (st : List Span) → same_lane m l ≡ true
      → read_events l (begins place m true s) (Some st) ≡ Some (option_to_list s ++ st)
  hit_begins None st h = refl
  hit_begins (Some s) st h = rw h refl

  -- six parts one behind the other
  read_six : (a b c d e f : List PictureEvent) (o oa ob oc od oe z : Option (List Span)) → read_events l a o ≡ oa → read_events l b oa ≡ ob
      → read_events l c ob ≡ oc → read_events l d oc ≡ od → read_events l e od ≡ oe → read_events l f oe ≡ z
      → read_events l (((((a ++ b) ++ c) ++ d) ++ e) ++ f) o ≡ z
  read_six a b c d e f o oa ob oc od oe z ha hb hc hd he hf =
      read_append l ((((a ++ b) ++ c) ++ d) ++ e) f o
      ∙ ap (read_events l f) (read_append l (((a ++ b) ++ c) ++ d) e o
      ∙ ap (read_events l e) (read_append l ((a ++ b) ++ c) d o
      ∙ ap (read_events l d) (read_append l (a ++ b) c o ∙ ap (read_events l c) (read_append l a b o ∙ ap (read_events l b) ha ∙ hb) ∙ hc)
      ∙ hd) ∙ he) ∙ hf

  -- the six parts of the steps of this lane
  hit_by : (O M I : Bool) (ao am ai bo bm bi : Option Span) → same_lane m l ≡ true → (O ≡ false → ao ≡ bo)
      → (M ≡ false → (am ≡ bm) × (O ≡ false)) → (I ≡ false → (ai ≡ bi) × (M ≡ false))
      → read_events l (ends place m I ai ++ ends place m M am ++ ends place m O ao
      ++ begins place m O bo ++ begins place m M bm ++ begins place m I bi)
      (Some (option_to_list ai ++ (option_to_list am ++ option_to_list ao)))
      ≡ Some (option_to_list bi ++ (option_to_list bm ++ option_to_list bo))
  hit_by true true true ao am ai bo bm bi h fo fm fi =
      read_six (ends place m true ai) (ends place m true am) (ends place m true ao) (begins place m true bo) (begins place m true bm)
      (begins place m true bi) _ (Some (option_to_list am ++ option_to_list ao)) (Some (option_to_list ao)) (Some [])
      (Some (option_to_list bo)) (Some (option_to_list bm ++ option_to_list bo)) _
      (hit_ends ai (option_to_list am ++ option_to_list ao) h) (hit_ends am (option_to_list ao) h)
      (ap (λ (st : List Span). read_events l (ends place m true ao) (Some st)) (sym (append-nil (option_to_list ao))) ∙ hit_ends ao [] h)
      (hit_begins bo [] h ∙ ap (λ (st : List Span). Some st) (append-nil (option_to_list bo)))
      (hit_begins bm (option_to_list bo) h) (hit_begins bi (option_to_list bm ++ option_to_list bo) h)
  hit_by false true true ao am ai bo bm bi h fo fm fi =
      let st = option_to_list ao in
      read_six (ends place m true ai) (ends place m true am) (ends place m false ao) (begins place m false bo) (begins place m true bm)
      (begins place m true bi) _ (Some (option_to_list am ++ st)) (Some st) (Some st) (Some st) (Some (option_to_list bm ++ st)) _
      (hit_ends ai (option_to_list am ++ st) h) (hit_ends am st h) (still_ends ao (Some st)) (still_begins bo (Some st))
      (hit_begins bm st h)
      (hit_begins bi (option_to_list bm ++ st) h
      ∙ ap (λ (s : Option Span). Some (option_to_list bi ++ (option_to_list bm ++ option_to_list s))) (fo refl))
  hit_by false false true ao am ai bo bm bi h fo fm fi =
      let st = option_to_list am ++ option_to_list ao in
      read_six (ends place m true ai) (ends place m false am) (ends place m false ao) (begins place m false bo) (begins place m false bm)
      (begins place m true bi) _ (Some st) (Some st) (Some st) (Some st) (Some st) _ (hit_ends ai st h) (still_ends am (Some st))
      (still_ends ao (Some st)) (still_begins bo (Some st)) (still_begins bm (Some st))
      (hit_begins bi st h ∙ (λ i. Some (option_to_list bi ++ (option_to_list ((fm refl).0 i) ++ option_to_list (fo refl i)))))
  hit_by false false false ao am ai bo bm bi h fo fm fi =
      let o = Some (option_to_list ai ++ (option_to_list am ++ option_to_list ao)) in
      read_six (ends place m false ai) (ends place m false am) (ends place m false ao) (begins place m false bo)
      (begins place m false bm) (begins place m false bi) o o o o o o _ (still_ends ai o) (still_ends am o) (still_ends ao o)
      (still_begins bo o) (still_begins bm o)
      (still_begins bi o
      ∙ (λ i. Some (option_to_list ((fi refl).0 i) ++ (option_to_list ((fm refl).0 i) ++ option_to_list (fo refl i)))))
  hit_by true true false ao am ai bo bm bi h fo fm fi = absurd (false≢true (sym ((fi refl).1)))
  hit_by true false true ao am ai bo bm bi h fo fm fi = absurd (false≢true (sym ((fm refl).1)))
  hit_by true false false ao am ai bo bm bi h fo fm fi = absurd (false≢true (sym ((fm refl).1)))
  hit_by false true false ao am ai bo bm bi h fo fm fi = absurd (false≢true (sym ((fi refl).1)))

  -- the steps of this lane lead from what was open to what is
  pub hit_steps : (a b : Open) → same_lane m l ≡ true → read_events l (steps place m a b) (Some (stack_of a)) ≡ Some (stack_of b)
  hit_steps a b h =
      let outer = not (same_spans a.outer b.outer) in
      let middle = outer || not (same_spans a.middle b.middle) in
      let inner = middle || not (same_spans a.inner b.inner) in
      hit_by outer middle inner a.outer a.middle a.inner b.outer b.middle b.inner h
      (λ k. equal_spans a.outer b.outer (not_false _ k))
      (λ k. let n = neither outer (not (same_spans a.middle b.middle)) k in (equal_spans a.middle b.middle (not_false _ n.1), n.0))
      (λ k. let n = neither middle (not (same_spans a.inner b.inner)) k in (equal_spans a.inner b.inner (not_false _ n.1), n.0))

  -- those of another lane do nothing on this one
  pub miss_steps : (a b : Open) (st : List Span) → same_lane m l ≡ false → read_events l (steps place m a b) (Some st) ≡ Some st
  miss_steps a b st h =
      let outer = not (same_spans a.outer b.outer) in
      let middle = outer || not (same_spans a.middle b.middle) in
      let inner = middle || not (same_spans a.inner b.inner) in
      read_six (ends place m inner a.inner) (ends place m middle a.middle) (ends place m outer a.outer) (begins place m outer b.outer)
      (begins place m middle b.middle) (begins place m inner b.inner) (Some st) (Some st) (Some st) (Some st) (Some st) (Some st) (Some st)
      (miss_ends inner a.inner st h) (miss_ends middle a.middle st h) (miss_ends outer a.outer st h) (miss_begins outer b.outer st h)
      (miss_begins middle b.middle st h) (miss_begins inner b.inner st h)
