-- What the check does not find by itself of the traces of a small job.
use Rattle.std.proofs.Common.{◌≡◌, ℕ, ◌+◌, ◌==◌, Bool, true, false, if◌then◌else◌, List, [], ◌∷◌, Option, Some}
use Rattle.std.proofs.Common.{None, refl, sym, ap, ◌∙◌, arith}
use Rattle.std.specs.Int.{is_power_of_two}
use Rattle.std.proofs.lemmas.Bool.{eqb-true}
use Rattle.std.proofs.lemmas.List.Elements.{All-head}
use lib.Count.{ones}
use Rattle.sgx_types.specs.Counts.{least_below}
use Rattle.sgx_rules.specs.declared.entries.Entry.{Entry}
use Rattle.sgx_types.specs.declared.names.Page.{Page}
use Rattle.sgx_types.specs.Pages.{is_secs_page, is_va_page, page_at, same_page, secs_page, va_page}
use Rattle.sgx_types.proofs.Pages.{same_pages}
use Rattle.sgx_rules.specs.Frames.{Content, Put, content, held_after, is_sealing, made_before, put_by, stands}
use Rattle.sgx_rules.specs.Processors.{BareTranslation}
use Rattle.sgx_rules.specs.Rules.{Along, AtEachPlace, FlatRule, NoPageTwice, NoneStale, IsCurrent, RefusalRule}
use Rattle.script_rules.specs.Machines.{machine_of}
use Rattle.worked_traces.specs.inner.Traces.{first_trace, first_build, fill, enter, frame_beyond, frame_twice, page_twice}
use Rattle.worked_traces.specs.inner.Traces.{adds_exchanged}
use Rattle.worked_traces.specs.inner.Traces.{epa_by_reclaimer, first_job, no_fill, fill_from_other_frame, other_cssa, other_value}

-- the count of a number's bits stays closed elsewhere
pub first_size_is_lawful : is_power_of_two 0x10000 ≡ true
unfolding ones
first_size_is_lawful = refl

-- ---- entries that keep the table, which looks for the SECS of an enclave below the number of frames

pub first_trace_table : Along (RefusalRule (machine_of first_job)) first_trace
unfolding least_below ones
first_trace_table = search arith

pub other_cssa_table : Along (RefusalRule (machine_of first_job)) other_cssa
unfolding least_below ones
other_cssa_table = search arith

pub other_value_table : Along (RefusalRule (machine_of first_job)) other_value
unfolding least_below ones
other_value_table = search arith

-- ---- entries that answer as flat memory

pub first_trace_flat : Along FlatRule first_trace
unfolding ones
first_trace_flat = search arith

pub frame_beyond_flat : Along FlatRule frame_beyond
unfolding ones
frame_beyond_flat = search arith

pub frame_twice_flat : Along FlatRule frame_twice
unfolding ones
frame_twice_flat = search arith

pub adds_exchanged_flat : Along FlatRule adds_exchanged
unfolding ones
adds_exchanged_flat = search arith

pub epa_by_reclaimer_flat : Along FlatRule epa_by_reclaimer
unfolding ones
epa_by_reclaimer_flat = search arith

pub no_fill_flat : Along FlatRule no_fill
unfolding ones
no_fill_flat = search arith

pub fill_from_other_frame_flat : Along FlatRule fill_from_other_frame
unfolding ones
fill_from_other_frame_flat = search arith

-- ---- no page in two frames: the version array comes into frame 0 alone, the SECS into frame 1, and page k into frame k + 2

home : Page → ℕ
home g = if is_va_page g then 0 else if is_secs_page g then 1 else g.number + 2

InPlace : (ℕ → Content) → Type 0
InPlace held = (n : ℕ) (g : Page) → stands (held n) g ≡ true → n ≡ home g

abbrev IsPutInPlace : Option Put → Type 0
IsPutInPlace None = Unit {0}
IsPutInPlace (Some put) = (g : Page) → stands put.content g ≡ true → put.frame ≡ home g

abbrev PutsInPlace : List Entry → Entry → Type 0
PutsInPlace past e = IsPutInPlace (put_by e.event (made_before past))

after_put : (put : Option Put) (held : ℕ → Content) → IsPutInPlace put → InPlace held → InPlace (λ n. held_after put n (held n))
unfolding InPlace
after_put None held here before n g = before n g
after_put (Some put) held here before n g = by_frame (put.frame == n) (eqb-true put.frame n)
  where
    by_frame : (b : Bool) → (b ≡ true → put.frame ≡ n) → stands (if b then put.content else held n) g ≡ true → n ≡ home g
    by_frame true same holds = sym (same refl) ∙ here g holds
    by_frame false same holds = before n g holds

in_place : (past : List Entry) → Along PutsInPlace past → InPlace (content past)
unfolding InPlace
in_place [] along n g holds = cc
in_place (e ∷ past) along n g holds = after_put (put_by e.event (made_before past)) (content past) along.0 (in_place past along.1) n g holds

once : (past : List Entry) → Along PutsInPlace past → NoPageTwice past
unfolding InPlace
once past along m n g at_m at_n = in_place past along m g at_m ∙ sym (in_place past along n g at_n)

pages_once : (past : List Entry) → Along PutsInPlace past → AtEachPlace NoPageTwice past
pages_once [] along = once [] along
pages_once (e ∷ past) along = (once (e ∷ past) along, pages_once past along.1)

array_home : (g : Page) → same_page (va_page 0) g ≡ true → 0 ≡ home g
unfolding home
array_home g same = ap home (same_pages (va_page 0) g same)

secs_home : (g : Page) → same_page (secs_page 1) g ≡ true → 1 ≡ home g
unfolding home
secs_home g same = ap home (same_pages (secs_page 1) g same)

tcs_home : (g : Page) → same_page (page_at 1 0) g ≡ true → 2 ≡ home g
unfolding home
tcs_home g same = ap home (same_pages (page_at 1 0) g same)

ssa_home : (g : Page) → same_page (page_at 1 1) g ≡ true → 3 ≡ home g
unfolding home
ssa_home g same = ap home (same_pages (page_at 1 1) g same)

sevens_home : (g : Page) → same_page (page_at 1 2) g ≡ true → 4 ≡ home g
unfolding home
sevens_home g same = ap home (same_pages (page_at 1 2) g same)

pub first_trace_pages : AtEachPlace NoPageTwice first_trace
first_trace_pages = pages_once first_trace (search (array_home, secs_home, tcs_home, ssa_home, sevens_home))

pub adds_exchanged_pages : AtEachPlace NoPageTwice adds_exchanged
adds_exchanged_pages = pages_once adds_exchanged (search (array_home, secs_home, tcs_home, ssa_home, sevens_home))

pub page_twice_not_pages : ¬ AtEachPlace NoPageTwice page_twice
page_twice_not_pages h = absurd (omega (arith, h.1.1.1.1.1.0 4 5 (page_at 1 2) refl refl))

-- ---- a translation to the wrong frame

pub fill_from_other_frame_not_stale : ¬ AtEachPlace NoneStale fill_from_other_frame
fill_from_other_frame_not_stale h =
    let past = fill 3 ∷ enter 0 ∷ first_build in
    let IsHeld : BareTranslation → Type 0 = λ x. IsCurrent 1 x (content past x.frame) (is_sealing past x.frame) in
    cc (All-head IsHeld (record { number = 2; frame = 3 }) [] (h.1.1.0 0).translations).page

-- ---- what each of these traces needs, in one list

pub ruleset first_trace_laws = (first_size_is_lawful, first_trace_pages, first_trace_flat)

pub ruleset adds_exchanged_laws = (first_size_is_lawful, adds_exchanged_pages, adds_exchanged_flat)

pub ruleset epa_by_reclaimer_laws = (first_size_is_lawful, first_trace_pages, epa_by_reclaimer_flat)
