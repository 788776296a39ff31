-- What lists of spans are once one of them was written.
use Rattle.std.proofs.Common.{◌≡◌, ℕ, zero, suc, ◌+◌, ◌≤◌, ◌==◌, ◌&&◌, Bool, true, false, if◌then◌else◌, nat_le, subst}
use Rattle.std.proofs.Common.{List, [], ◌∷◌}
use Rattle.std.proofs.Common.{length, drop, get_or, set, Option, Some, None, is_some, refl, sym, ap, ◌∙◌, arith}
use Rattle.std.proofs.lemmas.Bool.{false≢true, eqb-true, leb-true, leb-false}
use Rattle.sgx_types.proofs.Truths.{both_true, apart}
use Rattle.trace_spans.specs.declared.span_lists.Span.{Span}
use Rattle.trace_spans.specs.declared.span_lists.SpanKey.{SpanKey}
use Rattle.trace_spans.specs.inner.SpanLists.{same_span_key, end_by, begun, ended, greatest, up_to}

-- ---- maps

pub same_keys : (a b : SpanKey) → same_span_key a b ≡ true → a ≡ b
same_keys a b h =
    let k = both_true (a.cpu == b.cpu) ((a.enclave == b.enclave) && (a.number == b.number)) h in
    let l = both_true (a.enclave == b.enclave) (a.number == b.number) k.1 in
    λ i. record {
      cpu = eqb-true a.cpu b.cpu k.0 i;
      enclave = eqb-true a.enclave b.enclave l.0 i;
      number = eqb-true a.number b.number l.1 i;
    }

-- ---- the last span

end_none : (o : Option ℕ) (place : ℕ) → is_some o ≡ false → Some place ≡ end_by o place
end_none None place h = refl
end_none (Some to) place h = absurd (false≢true (sym h))

end_some : (o : Option ℕ) (place : ℕ) → is_some o ≡ true → o ≡ end_by o place
end_some None place h = absurd (false≢true h)
end_some (Some to) place h = refl

pub set_ended : (place : ℕ) (xs : List Span) (i : ℕ) (d : Span) → i + 1 ≡ length xs → is_some (get_or xs i d).to ≡ false
    → set xs i (record { from = (get_or xs i d).from; to = Some place }) ≡ ended place xs
set_ended place [] i d last h = absurd (omega (arith, last))
set_ended place (x ∷ []) zero d last h = ap (λ to. record { from = x.from; to = to } ∷ []) (end_none x.to place h)
set_ended place (x ∷ []) (suc i) d last h = absurd (omega (arith, last))
set_ended place (x ∷ y ∷ ys) zero d last h = absurd (omega (arith, last))
set_ended place (x ∷ y ∷ ys) (suc i) d last h = ap (λ rest. x ∷ rest) (set_ended place (y ∷ ys) i d (omega (arith, last)) h)

pub same_ended : (place : ℕ) (xs : List Span) (i : ℕ) (d : Span) → i + 1 ≡ length xs → is_some (get_or xs i d).to ≡ true
    → xs ≡ ended place xs
same_ended place [] i d last h = refl
same_ended place (x ∷ []) zero d last h = ap (λ to. record { from = x.from; to = to } ∷ []) (end_some x.to place h)
same_ended place (x ∷ []) (suc i) d last h = absurd (omega (arith, last))
same_ended place (x ∷ y ∷ ys) zero d last h = absurd (omega (arith, last))
same_ended place (x ∷ y ∷ ys) (suc i) d last h = ap (λ rest. x ∷ rest) (same_ended place (y ∷ ys) i d (omega (arith, last)) h)

pub none_ended : (place : ℕ) (xs : List Span) → length xs ≤ 0 → xs ≡ ended place xs
none_ended place [] h = refl
none_ended place (x ∷ xs) h = absurd (omega (arith, h))

pub drop_end : {A : Type 0} (xs : List A) (i : ℕ) → length xs ≤ i → drop i xs ≡ []
drop_end [] zero h = refl
drop_end [] (suc i) h = refl
drop_end (x ∷ xs) zero h = absurd (omega (arith, h))
drop_end (x ∷ xs) (suc i) h = drop_end xs i (omega (arith, h))

-- ---- the greatest number of a processor

greatest_if : (b : Bool) (last p : ℕ) → nat_le p last ≡ b
    → (last + 1 ≤ up_to (if b then Some last else Some p)) × (p + 1 ≤ up_to (if b then Some last else Some p))
greatest_if true last p h = (omega arith, omega (arith, leb-true p last h))
greatest_if false last p h = (omega (arith, leb-false p last h), omega arith)

pub greatest_covers : (last : Option ℕ) (p : ℕ) → (up_to last ≤ up_to (greatest last p)) × (p + 1 ≤ up_to (greatest last p))
greatest_covers None p = (omega arith, omega arith)
greatest_covers (Some last) p = greatest_if (nat_le p last) last p refl

begun_not : (b : Bool) (place : ℕ) (spans : List Span) → b ≡ false → spans ≡ [] → (if b then begun place spans else spans) ≡ []
begun_not true place spans other none = absurd (false≢true (sym other))
begun_not false place spans other none = none

-- where a span of a processor begins, no later one has any
pub covers_begun : (key : SpanKey) (place : ℕ) (last is_last : Option ℕ) (was is : SpanKey → List Span)
    → is_last ≡ greatest last key.cpu
    → ((q : SpanKey) → is q ≡ (if same_span_key key q then begun place (was q) else was q))
    → ((q : SpanKey) → up_to last ≤ q.cpu → was q ≡ []) → (q : SpanKey) → up_to is_last ≤ q.cpu → is q ≡ []
covers_begun key place last is_last was is new reads covers q le =
    let beyond : up_to (greatest last key.cpu) ≤ q.cpu = subst (λ o. up_to o ≤ q.cpu) new le in
    let most = greatest_covers last key.cpu in
    reads q
    ∙ begun_not (same_span_key key q) place (was q)
    (ap (λ b. b && ((key.enclave == q.enclave) && (key.number == q.number)))
    (apart key.cpu q.cpu (λ same. absurd (omega (arith, most.1, beyond, same)))))
    (covers q (omega (arith, most.0, beyond)))

ended_not : (b : Bool) (place : ℕ) (spans : List Span) → spans ≡ [] → (if b then ended place spans else spans) ≡ []
ended_not true place spans none = ap (ended place) none
ended_not false place spans none = none

-- where spans end, no later processor has any
pub covers_ended : (key : SpanKey) (place : ℕ) (last is_last : Option ℕ) (was is : SpanKey → List Span) → is_last ≡ last
    → ((q : SpanKey) → is q ≡ (if same_span_key key q then ended place (was q) else was q))
    → ((q : SpanKey) → up_to last ≤ q.cpu → was q ≡ []) → (q : SpanKey) → up_to is_last ≤ q.cpu → is q ≡ []
covers_ended key place last is_last was is same reads covers q le =
    reads q ∙ ended_not (same_span_key key q) place (was q) (covers q (subst (λ o. up_to o ≤ q.cpu) same le))
