-- The lists of spans, by processor and page.
use Rattle.std.specs.Prelude.{◌≡◌, ℕ, ◌+◌, ◌≤◌, ◌==◌, ◌&&◌, Bool, true, false, nat_le, nat_lt, if◌then◌else◌, List, [], ◌∷◌, ◌++◌}
use Rattle.std.specs.Prelude.{IsSome, is_none, Option, Some, None}
use Rattle.std.specs.HashMap.{get}
use Rattle.std.specs.List.Sorted.{IsNonDecreasingBy}
use Rattle.trace_spans.specs.declared.span_lists.Span.{Span}
use Rattle.trace_spans.specs.declared.span_lists.SpanKey.{SpanKey}
use Rattle.trace_spans.specs.declared.span_lists.SpanLists.{SpanLists}
use Rattle.trace_spans.specs.inner.Last.{last_from}
use Rattle.trace_spans.specs.inner.Listed.{items_of, HasSpare}

-- the keys are those of the same processor and page
abbrev pub same_span_key : SpanKey → SpanKey → Bool
same_span_key a b = (a.cpu == b.cpu) && ((a.enclave == b.enclave) && (a.number == b.number))

abbrev pub span_key : ℕ → ℕ → ℕ → SpanKey
span_key cpu enclave number = record { cpu = cpu; enclave = enclave; number = number }

-- the spans of a processor and a page: none where there is no list
abbrev pub spans_in : SpanLists → SpanKey → List Span
spans_in known q = items_of (get same_span_key known.lists q)

-- there is a list, be it an empty one
abbrev pub HasSpanList : SpanLists → SpanKey → Type 0
HasSpanList known q = IsSome (get same_span_key known.lists q)

-- a span more needs no memory
abbrev pub HasSpanRoom : SpanLists → SpanKey → Type 0
HasSpanRoom known q = HasSpare (get same_span_key known.lists q) 1

-- ---- processors

-- how many numbers there are up to one
abbrev pub up_to : Option ℕ → ℕ
up_to None = 0
up_to (Some p) = p + 1

abbrev pub greatest : Option ℕ → ℕ → Option ℕ
greatest None p = Some p
greatest (Some last) p = if nat_le p last then Some last else Some p

-- no later processor has a span
abbrev pub Covers : SpanLists → Type 0
Covers known = (q : SpanKey) → up_to known.last ≤ q.cpu → spans_in known q ≡ []

-- ---- the last span

-- the last span lasts
abbrev pub lasts : List Span → Bool
lasts [] = false
lasts (span ∷ []) = is_none span.to
lasts (span ∷ next ∷ spans) = lasts (next ∷ spans)

abbrev pub end_by : Option ℕ → ℕ → Option ℕ
end_by None place = Some place
end_by (Some to) place = Some to

abbrev pub ended_at : ℕ → Span → Span
ended_at place span = record { from = span.from; to = end_by span.to place }

-- the spans, of which the last ends here if it lasts
abbrev pub ended : ℕ → List Span → List Span
ended place [] = []
ended place (span ∷ []) = ended_at place span ∷ []
ended place (span ∷ next ∷ spans) = span ∷ ended place (next ∷ spans)

-- a span begins
abbrev pub begun : ℕ → List Span → List Span
begun place spans = spans ++ record { from = place; to = None } ∷ []

-- the spans of these numbers end
abbrev pub all_ended : ℕ → ℕ → ℕ → List ℕ → SpanKey → List Span → List Span
all_ended place cpu enclave [] q spans = spans
all_ended place cpu enclave (n ∷ ns) q spans =
    all_ended place cpu enclave ns q (if same_span_key (span_key cpu enclave n) q then ended place spans else spans)

-- .. of an enclave, if it is one
abbrev pub ended_of : Option ℕ → ℕ → ℕ → List ℕ → SpanKey → List Span → List Span
ended_of None place p ns q before = before
ended_of (Some enclave) place p ns q before = all_ended place p enclave ns q before

-- ---- places

-- spans stand by the places at which they began
abbrev pub SpansRise : List Span → Type 0
SpansRise spans = IsNonDecreasingBy (λ span. span.from) spans

-- a span that began is not over
abbrev pub is_before : ℕ → Option ℕ → Bool
is_before n None = true
is_before n (Some to) = nat_lt n to

abbrev pub cached_from : Bool → List Span → ℕ → Bool
cached_from first spans n = last_from (λ span. span.from) (λ span. is_before n span.to) first spans n

-- the last span that began up to a place is not over there
abbrev pub cached_at : List Span → ℕ → Bool
cached_at spans n = cached_from false spans n
