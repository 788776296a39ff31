-- The spans of a page rise, and the last one up to a place is not over there exactly where the page was cached.
use Rattle.std.proofs.Common.{inl, inr}
use Rattle.std.proofs.Common.{◌≡◌, ℕ, zero, suc, ◌+◌, ◌-◌, ◌<◌, ◌≤◌, Bool, true, false, if◌then◌else◌, nat_le, List, [], ◌∷◌}
use Rattle.std.proofs.Common.{length, get_or, Option, Some, None, is_none, refl, sym, ap, ◌∙◌, subst, append-nil, arith}
use Rattle.std.proofs.Common.{◌++◌}
use Rattle.std.proofs.lemmas.Bool.{cases_lt, le-leb, lt-leb, lt-ltb, le-ltb}
use Rattle.std.proofs.lemmas.List.Sorted.{IsNonDecreasingBy-push}
use Rattle.sgx_rules.specs.declared.entries.Entry.{Entry}
use Rattle.sgx_types.specs.Pages.{page_at}
use Rattle.trace_spans.specs.declared.span_lists.Span.{Span}
use Rattle.trace_spans.specs.declared.span_lists.SpanKey.{SpanKey}
use Rattle.trace_query.specs.Moves.{first_entries}
use Rattle.sgx_types.specs.declared.names.Page.{Page}
use Rattle.trace_query.specs.declared.page_spans.PageSpans.{PageSpans}
use Rattle.trace_query.specs.Spans.{caches, cachers_before, cachers}
use Rattle.trace_spans.specs.inner.SpanLists.{lasts, end_by, ended, begun, SpansRise, is_before, cached_from, cached_at}
use Rattle.trace_spans.specs.inner.SpanLists.{span_key, up_to}
use Rattle.trace_query.specs.inner.Seen.{settled, spans, SpansFollow}
use Rattle.trace_query.proofs.PlaceLaws.{before_more, before_all}
use Rattle.trace_query.proofs.SpanLaws.{spans_last}

-- ---- places

EndsBy : ℕ → Option ℕ → Type 0
EndsBy b None = Unit {0}
EndsBy b (Some to) = to ≤ b

-- no span begins later than this place, and those that end do so by it
UpTo : ℕ → List Span → Type 0
UpTo b [] = Unit {0}
UpTo b (span ∷ spans) = (span.from ≤ b) × (EndsBy b span.to × UpTo b spans)

ends_more : (b : ℕ) (o : Option ℕ) → EndsBy b o → EndsBy (b + 1) o
unfolding EndsBy
ends_more b None h = tt
ends_more b (Some to) h = omega (arith, h)

end_up_to : (b : ℕ) (o : Option ℕ) → EndsBy b o → EndsBy (b + 1) (end_by o (b + 1))
unfolding EndsBy
end_up_to b None h = omega arith
end_up_to b (Some to) h = omega (arith, h)

up_to_more : (b : ℕ) (s : List Span) → UpTo b s → UpTo (b + 1) s
unfolding UpTo
up_to_more b [] h = tt
up_to_more b (x ∷ s) h = (omega (arith, h.0), (ends_more b x.to h.1.0, up_to_more b s h.1.1))

up_to_begun : (b : ℕ) (s : List Span) → UpTo b s → UpTo (b + 1) (begun (b + 1) s)
unfolding UpTo EndsBy
up_to_begun b [] h = (omega arith, (tt, tt))
up_to_begun b (x ∷ s) h = (omega (arith, h.0), (ends_more b x.to h.1.0, up_to_begun b s h.1.1))

up_to_ended : (b : ℕ) (s : List Span) → UpTo b s → UpTo (b + 1) (ended (b + 1) s)
unfolding UpTo
up_to_ended b [] h = tt
up_to_ended b (x ∷ []) h = (omega (arith, h.0), (end_up_to b x.to h.1.0, tt))
up_to_ended b (x ∷ y ∷ s) h = (omega (arith, h.0), (ends_more b x.to h.1.0, up_to_ended b (y ∷ s) h.1.1))

up_to_if : (t : Bool) (b : ℕ) (s : List Span) → UpTo b s → UpTo (b + 1) (if t then s else begun (b + 1) s)
up_to_if true b s h = up_to_more b s h
up_to_if false b s h = up_to_begun b s h

up_to_settled : (t : Bool) (b : ℕ) (s : List Span) → UpTo b s → UpTo (b + 1) (settled t (b + 1) s)
up_to_settled true b s h = up_to_if (lasts s) b s h
up_to_settled false b s h = up_to_ended b s h

spans_up_to : (past : List Entry) (q : SpanKey) → UpTo (length past) (spans past q)
unfolding UpTo
spans_up_to [] q = tt
spans_up_to (e ∷ past) q =
    let Up : ℕ → Type 0 = λ b. UpTo b (spans (e ∷ past) q) in
    let more : length past + 1 ≡ length (e ∷ past) = omega arith in
    subst Up more
    (up_to_settled (caches (e ∷ past) q.cpu (page_at q.enclave q.number)) (length past) (spans past q) (spans_up_to past q))

up_to_at : (b : ℕ) (s : List Span) (k : ℕ) (d : Span) → UpTo b s → k < length s → (get_or s k d).from ≤ b
unfolding UpTo
up_to_at b [] k d h within = absurd (omega (arith, within))
up_to_at b (x ∷ s) zero d h within = h.0
up_to_at b (x ∷ s) (suc k) d h within = up_to_at b s k d h.1.1 (omega (arith, within))

-- ---- spans rise

ended_from : (place : ℕ) (s : List Span) (k : ℕ) (d : Span) → (get_or (ended place s) k d).from ≡ (get_or s k d).from
ended_from place [] k d = refl
ended_from place (x ∷ []) zero d = refl
ended_from place (x ∷ []) (suc k) d = refl
ended_from place (x ∷ y ∷ s) zero d = refl
ended_from place (x ∷ y ∷ s) (suc k) d = ended_from place (y ∷ s) k d

ended_count : (place : ℕ) (s : List Span) → length (ended place s) ≡ length s
ended_count place [] = refl
ended_count place (x ∷ []) = refl
ended_count place (x ∷ y ∷ s) = ap suc (ended_count place (y ∷ s))

ended_rises : (place : ℕ) (s : List Span) → SpansRise s → SpansRise (ended place s)
ended_rises place s rises = λ i j d le within.
    omega (arith, ended_from place s i d, ended_from place s j d, rises i j d le (omega (arith, within, ended_count place s)))

rises_if : (t : Bool) (b : ℕ) (s : List Span) → SpansRise s → UpTo b s → SpansRise (if t then s else begun (b + 1) s)
rises_if true b s rises up = rises
rises_if false b s rises up =
    IsNonDecreasingBy-push (λ span. span.from) s (record { from = b + 1; to = None }) rises
    (λ d some. omega (arith, up_to_at b s (length s - 1) d up (omega (arith, some))))

settled_rises : (t : Bool) (b : ℕ) (s : List Span) → SpansRise s → UpTo b s → SpansRise (settled t (b + 1) s)
settled_rises true b s rises up = rises_if (lasts s) b s rises up
settled_rises false b s rises up = ended_rises (b + 1) s rises

pub spans_rise : (past : List Entry) (q : SpanKey) → SpansRise (spans past q)
spans_rise [] q = λ i j d le within. absurd (omega (arith, within))
spans_rise (e ∷ past) q =
    settled_rises (caches (e ∷ past) q.cpu (page_at q.enclave q.number)) (length past) (spans past q) (spans_rise past q)
    (spans_up_to past q)

-- ---- the last span up to a place

is_before_end : (b n : ℕ) (o : Option ℕ) → EndsBy b o → b ≤ n → is_before n o ≡ is_none o
unfolding EndsBy
is_before_end b n None ends le = refl
is_before_end b n (Some to) ends le = le-ltb n to (omega (arith, ends, le))

-- from where no span begins or ends any more, the last one tells
at_end : (first : Bool) (x : Span) (s : List Span) (b n : ℕ) → UpTo b (x ∷ s) → b ≤ n → cached_from first (x ∷ s) n ≡ lasts (x ∷ s)
unfolding UpTo
at_end first x [] b n up le = rw (le-leb x.from n (omega (arith, up.0, le))) (is_before_end b n x.to up.1.0 le)
at_end first x (y ∷ s) b n up le = at_end (if nat_le x.from n then is_before n x.to else first) y s b n up.1.1 le

at_last : (s : List Span) (b n : ℕ) → UpTo b s → b ≤ n → cached_at s n ≡ lasts s
at_last [] b n up le = refl
at_last (x ∷ s) b n up le = at_end false x s b n up le

end_not_yet : (o : Option ℕ) (place n : ℕ) → n < place → is_before n (end_by o place) ≡ is_before n o
end_not_yet None place n lt = lt-ltb n place lt
end_not_yet (Some to) place n lt = refl

ended_not_yet : (first : Bool) (s : List Span) (place n : ℕ) → n < place → cached_from first (ended place s) n ≡ cached_from first s n
ended_not_yet first [] place n lt = refl
ended_not_yet first (x ∷ []) place n lt = ap (λ b. if nat_le x.from n then b else first) (end_not_yet x.to place n lt)
ended_not_yet first (x ∷ y ∷ s) place n lt = ended_not_yet (if nat_le x.from n then is_before n x.to else first) (y ∷ s) place n lt

begun_not_yet : (first : Bool) (s : List Span) (place n : ℕ) → n < place → cached_from first (begun place s) n ≡ cached_from first s n
begun_not_yet first [] place n lt = rw (lt-leb place n lt) refl
begun_not_yet first (x ∷ s) place n lt = begun_not_yet (if nat_le x.from n then is_before n x.to else first) s place n lt

if_not_yet : (t : Bool) (s : List Span) (place n : ℕ) → n < place → cached_at (if t then s else begun place s) n ≡ cached_at s n
if_not_yet true s place n lt = refl
if_not_yet false s place n lt = begun_not_yet false s place n lt

settled_not_yet : (t : Bool) (s : List Span) (place n : ℕ) → n < place → cached_at (settled t place s) n ≡ cached_at s n
settled_not_yet true s place n lt = if_not_yet (lasts s) s place n lt
settled_not_yet false s place n lt = ended_not_yet false s place n lt

-- ---- all entries

pub cached_before : (past : List Entry) (q : SpanKey) (n : ℕ)
    → cached_at (spans past q) n ≡ caches (first_entries n past) q.cpu (page_at q.enclave q.number)
cached_before [] q n = ap (λ h. caches h q.cpu (page_at q.enclave q.number)) (sym (before_all [] n (omega arith)))
cached_before (e ∷ past) q n =
    elim (cases_lt (length past) n) [
      | inl behind ↦
          at_last (spans (e ∷ past) q) (length (e ∷ past)) n (spans_up_to (e ∷ past) q) (omega (arith, behind))
          ∙ spans_last (e ∷ past) q
          ∙ ap (λ h. caches h q.cpu (page_at q.enclave q.number)) (sym (before_all (e ∷ past) n (omega (arith, behind))))
      | inr up ↦
          settled_not_yet (caches (e ∷ past) q.cpu (page_at q.enclave q.number)) (spans past q) (length past + 1) n (omega (arith, up))
          ∙ cached_before past q n
          ∙ ap (λ h. caches h q.cpu (page_at q.enclave q.number)) (sym (before_more e past n up))
    ]

-- ---- processors that cached nothing

no_cachers : (k n : ℕ) (past : List Entry) (g : Page) → k ≤ n → ((p : ℕ) → k ≤ p → caches past p g ≡ false)
    → cachers_before k past g ≡ cachers_before n past g
no_cachers k zero past g le none =
    let is : k ≡ 0 = omega (arith, le) in
    ap (λ j. cachers_before j past g) is
no_cachers k (suc n) past g le none =
    elim (cases_lt n k) [
      | inl all ↦
          (let is : k ≡ suc n = omega (arith, le, all) in
          ap (λ j. cachers_before j past g) is)
      | inr up ↦
          no_cachers k n past g up none
          ∙ sym (append-nil (cachers_before n past g))
          ∙ ap (λ b. cachers_before n past g ++ (if b then record { 0 = n } ∷ [] else [])) (sym (none n up))
    ]

-- no processor beyond those that cached a page is among the cachers
pub none_beyond : (known : PageSpans) (past : List Entry) (n : ℕ) (g : Page) (k : ℕ) → SpansFollow known past → k ≡ up_to known.lists.last
    → k ≤ 256 → cachers_before k (first_entries n past) g ≡ cachers (first_entries n past) g
none_beyond known past n g k f is most =
    no_cachers k 256 (first_entries n past) g most
    (λ p le.
    sym (cached_before past (span_key p g.enclave g.number) n)
    ∙ ap (λ spans. cached_at spans n)
    (sym (f.lists (span_key p g.enclave g.number)) ∙ f.covers (span_key p g.enclave g.number) (omega (arith, le, is))))
