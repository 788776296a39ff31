-- What is kept of the caches of processors, and when it is that of entries.
use Rattle.std.specs.Prelude.{◌≡◌, ℕ, ◌+◌, ◌<◌, ◌^◌, Bool, true, false, if◌then◌else◌, List, [], ◌∷◌, length}
use Rattle.std.specs.Prelude.{Option, Some, None}
use Rattle.sgx_rules.specs.declared.entries.Entry.{Entry}
use Rattle.sgx_types.specs.Pages.{page_at}
use Rattle.trace_spans.specs.declared.span_lists.Span.{Span}
use Rattle.trace_spans.specs.declared.span_lists.SpanKey.{SpanKey}
use Rattle.trace_query.specs.declared.steps.Step.{Step}
use Rattle.trace_query.specs.declared.steps.Step.TheVariants.{Turns, Fills}
use Rattle.trace_query.specs.declared.processors.Filled.{Filled}
use Rattle.trace_query.specs.declared.page_spans.PageSpans.{PageSpans}
use Rattle.trace_query.specs.Spans.{caches}
use Rattle.trace_spans.specs.inner.SpanLists.{same_span_key, span_key, spans_in, lasts, begun, ended, ended_of, Covers}
use Rattle.trace_spans.specs.inner.SpanLists as lists
use Rattle.trace_query.specs.inner.Sights.{Sight, sight, sight_in, sight_after, step_by, filled, HasPlace}
use Rattle.trace_query.specs.inner.Sights as sights

-- the spans, of which the last one lasts from now on, or does not
abbrev pub settled : Bool → ℕ → List Span → List Span
settled true place spans = if lasts spans then spans else begun place spans
settled false place spans = ended place spans

-- the spans in which a processor caches a page
abbrev pub spans : List Entry → SpanKey → List Span
spans [] q = []
spans (e ∷ past) q = settled (caches (e ∷ past) q.cpu (page_at q.enclave q.number)) (length past + 1) (spans past q)

-- what is kept is that of these entries
pub record SpansFollow (known : PageSpans) (past : List Entry) : Type 0 where
  pub sights : (p : ℕ) → sight_in known.processors p ≡ sight past p
  pub lists : (q : SpanKey) → spans_in known.lists q ≡ spans past q
  pub covers : Covers known.lists
  pub len : known.len ≡ length past

-- ---- room

abbrev pub HasRoomInside : PageSpans → ℕ → Option ℕ → ℕ → Type 0
HasRoomInside known p None n = Unit {0}
HasRoomInside known p (Some enclave) n = sights.HasRoomFor known.processors p × lists.HasSpanRoom known.lists (span_key p enclave n)

abbrev pub HasRoomToStep : PageSpans → Option Step → Type 0
HasRoomToStep known None = Unit {0}
HasRoomToStep known (Some (Turns p None)) = Unit {0}
HasRoomToStep known (Some (Turns p (Some enclave))) = HasPlace known.processors p
HasRoomToStep known (Some (Fills p n)) = HasRoomInside known p (sight_in known.processors p).enclave n

-- the next entry needs no memory
pub record SpansHaveRoom (known : PageSpans) (e : Entry) : Type 0 where
  pub step : HasRoomToStep known (step_by e.actor e.event)
  pub place : known.len + 1 < 2 ^ 64

-- ---- what changes

-- the same is known
pub record SpansStay (old new : PageSpans) : Type 0 where
  pub sights : (p : ℕ) → sight_in new.processors p ≡ sight_in old.processors p
  pub lists : (q : SpanKey) → spans_in new.lists q ≡ spans_in old.lists q
  pub covers : Covers old.lists → Covers new.lists
  pub len : new.len ≡ old.len

abbrev pub ended_if : Option ℕ → ℕ → ℕ → ℕ → SpanKey → List Span → List Span
ended_if None place p enclave q before = before
ended_if (Some n) place p enclave q before = if same_span_key (span_key p enclave n) q then ended place before else before

abbrev pub spans_filled : Option Filled → ℕ → ℕ → ℕ → SpanKey → List Span → List Span
spans_filled None place p n q before = before
spans_filled (Some change) place p n q before =
    ended_if change.dropped place p change.enclave q
    (if same_span_key (span_key p change.enclave n) q then begun place before else before)

-- the spans behind a step, which knows the sight of its processor
abbrev pub spans_after : Option Step → ℕ → (ℕ → Sight) → SpanKey → List Span → List Span
spans_after None place seen q before = before
spans_after (Some (Turns p to)) place seen q before = ended_of (seen p).enclave place p (seen p).numbers q before
spans_after (Some (Fills p n)) place seen q before = spans_filled (filled (seen p) n) place p n q before

-- a step is made at the place behind all entries
pub record SpansMake (old : PageSpans) (step : Option Step) (new : PageSpans) : Type 0 where
  pub sights : (p : ℕ) → sight_in new.processors p ≡ sight_after step p (sight_in old.processors p)
  pub lists : (q : SpanKey) → spans_in new.lists q ≡ spans_after step old.len (sight_in old.processors) q (spans_in old.lists q)
  pub covers : Covers old.lists → Covers new.lists
  pub len : new.len ≡ old.len
