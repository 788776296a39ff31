-- The spans that are open on the lanes of a picture behind entries, which stand newest first. No rule is asked of them.
use Rattle.std.specs.Prelude.{◌==◌, ◌&&◌, Bool, true, false, if◌then◌else◌, List, Option, Some, None}
use Rattle.sgx_rules.specs.declared.entries.Entry.{Entry}
use Rattle.sgx_rules.specs.Frames.{is_blocked, is_sealing}
use Rattle.sgx_rules.specs.Processors.{Stay, stay}
use Rattle.sgx_types.specs.Pages.{same_page}
use Rattle.trace_places.specs.declared.change.Tenant.{Tenant}
use Rattle.trace_places.specs.declared.change.Tenant.TheVariants as tenants
use Rattle.trace_places.specs.declared.moves.Where.{Where}
use Rattle.trace_places.specs.declared.moves.Where.TheVariants as wheres
use Rattle.trace_places.specs.Places.{tenant, place_of}
use Rattle.picture_text.specs.declared.events.Lane.{Lane}
use Rattle.picture_text.specs.declared.events.Lane.TheVariants as lanes
use Rattle.picture_text.specs.declared.events.Open.{Open}
use Rattle.picture_text.specs.declared.events.Span.{Span}
use Rattle.picture_text.specs.declared.events.Span.TheVariants as spans

-- a processor is inside an enclave by a TCS page
abbrev pub inside : Option Stay → Option Span
inside None = None
inside (Some here) = Some (spans.Inside here.seat.enclave here.seat.tcs)

-- a frame has a page, or awaits one
abbrev pub sits : Option Tenant → Option Span
sits None = None
sits (Some (tenants.Has g)) = Some (spans.Holds g)
sits (Some (tenants.Awaits g)) = Some (spans.Awaits g)

-- a page is in a frame, awaited by one, or sealed
abbrev pub span_of : Where → Option Span
span_of wheres.Nowhere = None
span_of (wheres.At f) = Some (spans.At f)
span_of (wheres.Loading f) = Some (spans.Loading f)
span_of (wheres.Sealed version) = Some (spans.Sealed version)

abbrev pub only : Option Span → Open
only span = record { outer = span; middle = None; inner = None }

abbrev pub when_so : Bool → Span → Option Span
when_so so span = if so then Some span else None

-- the spans that are open on a lane behind entries
abbrev pub open_on : List Entry → Lane → Open
open_on past (lanes.Processor p) = only (inside (stay past p.0))
open_on past (lanes.Frame f) = record {
  outer = sits (tenant past f.0);
  middle = when_so (is_blocked past f.0) spans.Blocked;
  inner = when_so (is_sealing past f.0) spans.Sealing;
}
open_on past (lanes.Page g) = only (span_of (place_of past g))
open_on past lanes.Builder = only None
open_on past lanes.Reclaimer = only None
open_on past lanes.Counters = only None

-- .. and none where there is no lane
abbrev pub open_if : List Entry → Option Lane → Open
open_if past None = only None
open_if past (Some lane) = open_on past lane

-- ---- the same

abbrev pub same_span : Span → Span → Bool
same_span (spans.Inside e t) (spans.Inside d s) = (e == d) && (t == s)
same_span (spans.Holds g) (spans.Holds h) = same_page g h
same_span (spans.Awaits g) (spans.Awaits h) = same_page g h
same_span spans.Blocked spans.Blocked = true
same_span spans.Sealing spans.Sealing = true
same_span (spans.At f) (spans.At k) = f.0 == k.0
same_span (spans.Loading f) (spans.Loading k) = f.0 == k.0
same_span (spans.Sealed v) (spans.Sealed w) = v == w
same_span here there = false

abbrev pub same_spans : Option Span → Option Span → Bool
same_spans None None = true
same_spans None (Some there) = false
same_spans (Some here) None = false
same_spans (Some here) (Some there) = same_span here there
