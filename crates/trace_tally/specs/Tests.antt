-- What an event is to the tally of a trace, by the entries before it. These stand newest first, and no rule is asked of them.
use Rattle.std.specs.Prelude.{ℕ, ◌+◌, ◌==◌, ◌&&◌, ◌||◌, not, nat_le, Bool, true, false, if◌then◌else◌, List, [], ◌∷◌}
use Rattle.std.specs.Prelude.{Option, Some, None}
use Rattle.sgx_rules.specs.declared.entries.Entry.{Entry}
use Rattle.sgx_rules.specs.declared.entries.Event.{Event}
use Rattle.sgx_rules.specs.declared.entries.Event.TheVariants.{Did, Refused}
use Rattle.sgx_rules.specs.declared.entries.Action.{Action}
use Rattle.sgx_rules.specs.declared.entries.Action.TheVariants.{Block, Track, EwbStart, Ewb, EldStart, Eld}
use Rattle.sgx_rules.specs.declared.entries.Answer.TheVariants.{Moved}
use Rattle.sgx_rules.specs.declared.refusals.Refusal.{Refusal}
use Rattle.sgx_rules.specs.declared.refusals.Refusal.TheVariants.{EpochSpent, VersionSpent, NotTracked}
use Rattle.sgx_types.specs.declared.names.Page.{Page}
use Rattle.trace_places.specs.Places.{tenant, page_at_frame}
use Rattle.sgx_rules.specs.Frames.{is_this}
use Rattle.trace_query.specs.Spans.{is_entered, is_cached}

-- ---- the page of a frame

-- the page that a frame has or awaits
abbrev pub tenant_page : List Entry → ℕ → Option Page
tenant_page past n = page_at_frame (tenant past n)

abbrev pub is_page_entered : List Entry → Option Page → Bool
is_page_entered past None = false
is_page_entered past (Some g) = is_entered past g.enclave

abbrev pub is_page_cached : List Entry → Option Page → Bool
is_page_cached past None = false
is_page_cached past (Some g) = is_cached past g

-- ---- since a frame was blocked

-- the frame that is blocked
abbrev pub blocked_by : Event → Option ℕ
blocked_by (Did (Block f) answer) = Some f.0
blocked_by event = None

-- the frame whose write-out is refused, since a processor may have a translation from before the track
abbrev pub untracked_by : Event → Option ℕ
untracked_by (Refused (EwbStart f slot) (NotTracked epoch older)) = Some f.0
untracked_by event = None

abbrev pub is_frame : Option ℕ → ℕ → Bool
is_frame None n = false
is_frame (Some m) n = m == n

-- when the frame was blocked last, a processor was inside the enclave of its page
abbrev pub was_entered : List Entry → ℕ → Bool
was_entered [] n = false
was_entered (e ∷ past) n = if is_frame (blocked_by e.event) n then is_page_entered past (tenant_page past n) else was_entered past n

-- how often its write-out was refused so since then
abbrev pub untracked : List Entry → ℕ → ℕ
untracked [] n = 0
untracked (e ∷ past) n =
    if is_frame (blocked_by e.event) n then 0
    else (if is_frame (untracked_by e.event) n then untracked past n + 1 else untracked past n)

-- ---- reloads

-- the page that comes back
abbrev pub back_by : Event → Option Page
back_by (Did (Eld f) (Moved page version tag)) = Some page
back_by event = None

-- a page came back
abbrev pub was_back : List Entry → Page → Bool
was_back [] g = false
was_back (e ∷ past) g = is_this (back_by e.event) g || was_back past g

abbrev pub is_page_back : List Entry → Option Page → Bool
is_page_back past None = false
is_page_back past (Some g) = was_back past g

-- ---- what is counted

-- a page is written out
abbrev pub is_written : List Entry → Event → Bool
is_written past (Did (Ewb f) answer) = true
is_written past event = false

-- .. whose enclave a processor was inside when it was blocked
abbrev pub is_entered_then : List Entry → Event → Bool
is_entered_then past (Did (Ewb f) answer) = was_entered past f.0
is_entered_then past event = false

-- a page is blocked that a processor caches
abbrev pub is_cached_now : List Entry → Event → Bool
is_cached_now past (Did (Block f) answer) = is_page_cached past (tenant_page past f.0)
is_cached_now past event = false

-- a page is reloaded
abbrev pub is_reloaded : List Entry → Event → Bool
is_reloaded past (Did (Eld f) answer) = true
is_reloaded past event = false

-- .. that was reloaded before
abbrev pub is_again : List Entry → Event → Bool
is_again past event = is_page_back past (back_by event)

-- ---- what a right driver is never refused

-- the processor's numbers are spent, which is nobody's fault
abbrev pub is_spent_number : Refusal → Bool
is_spent_number EpochSpent = true
is_spent_number VersionSpent = true
is_spent_number why = false

abbrev pub is_paging : Action → Bool
is_paging (Block f) = true
is_paging (Track enclave) = true
is_paging (EwbStart f slot) = true
is_paging (EldStart f page slot) = true
is_paging (Eld f) = true
is_paging action = false

abbrev pub is_refused_paging : Event → Bool
is_refused_paging (Refused action why) = is_paging action && not (is_spent_number why)
is_refused_paging event = false

-- the third refusal since the frame was blocked, where this one is as not tracked
abbrev pub is_odd_by : List Entry → Event → Option ℕ → Bool
is_odd_by past event None = is_refused_paging event
is_odd_by past event (Some n) = nat_le 2 (untracked past n)

-- an instruction of paging is refused, otherwise than as not tracked, or so for the third time since its frame was blocked
abbrev pub is_odd : List Entry → Event → Bool
is_odd past event = is_odd_by past event (untracked_by event)
