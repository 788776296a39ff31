-- Where pages are, by the entries before a place. Entries stand newest first. No rule is asked of them: two frames may have one page,
-- and a load may end that never started. A page is named by an enclave and a number: the SECS of enclave E is the page (E, 4294967295),
-- and the version array page that was made as the K-th is (0, K), counted from 0.
use Rattle.std.specs.Prelude.{ℕ, ◌^◌, ◌==◌, nat_lt, Bool, true, false, if◌then◌else◌, List, [], ◌∷◌}
use Rattle.std.specs.Prelude.{Option, Some, None}
use Rattle.sgx_rules.specs.declared.entries.Entry.{Entry}
use Rattle.sgx_rules.specs.declared.entries.Event.{Event}
use Rattle.sgx_rules.specs.declared.entries.Event.TheVariants.{Did, Refused}
use Rattle.sgx_rules.specs.declared.entries.Action.{Action}
use Rattle.sgx_rules.specs.declared.entries.Action.TheVariants.{Epa, Create, Add, EldStart, Eld, Ewb}
use Rattle.sgx_rules.specs.declared.entries.Answer.{Answer}
use Rattle.sgx_rules.specs.declared.entries.Answer.TheVariants.{Moved}
use Rattle.sgx_rules.specs.Frames.{vas_made}
use Rattle.sgx_types.specs.declared.names.Frame.{Frame}
use Rattle.sgx_types.specs.declared.names.Page.{Page}
use Rattle.sgx_types.specs.Pages.{same_page, page_at}
use Rattle.trace_places.specs.declared.change.Tenant.{Tenant}
use Rattle.trace_places.specs.declared.change.Tenant.TheVariants.{Has, Awaits}
use Rattle.trace_places.specs.declared.change.Gone.{Gone}
use Rattle.trace_places.specs.declared.change.Change.{Change}
use Rattle.trace_places.specs.declared.change.Change.TheVariants.{Puts, Empties}
use Rattle.trace_places.specs.declared.moves.Where.{Where}
use Rattle.trace_places.specs.declared.moves.Where.TheVariants.{Nowhere, At, Loading, Sealed}
use Rattle.sgx_rules.specs.Frames.{is_this}

-- ---- what an entry changes

-- the number of a version array page, where so many were made before it. A page's number has 32 bits, so that of a page past them
-- is no page's name, and its frame is nobody's
abbrev pub va_number : ℕ → Option ℕ
va_number made = if nat_lt made (2 ^ 32) then Some made else None

-- a frame has this page
abbrev pub put : Frame → ℕ → ℕ → Change
put f enclave number = Puts f (Has (page_at enclave number))

-- a frame has the version array page of a number
abbrev pub va_change : Frame → Option ℕ → Change
va_change f (Some number) = put f 0 number
va_change f None = Empties f None

-- a load into a frame that is done brings the page that it answers
abbrev pub load_puts : Frame → Answer → Option Change
load_puts f (Moved page version tag) = Some (Puts f (Has page))
load_puts f answer = None

-- the page that a done write-out tells of as sealed
abbrev pub gone_by : Answer → Option Gone
gone_by (Moved page version tag) = Some (record { page = page; version = version })
gone_by answer = None

-- what a done action changes, where the next version array page has this number
abbrev pub done_change : Action → Answer → Option ℕ → Option Change
done_change (Epa f) answer va = Some (va_change f va)
done_change (Create enclave f base size) answer va = Some (put f enclave 4294967295)
done_change (Add enclave number f kind perm init) answer va = Some (put f enclave number)
done_change (EldStart f page slot) answer va = Some (Puts f (Awaits page))
done_change (Eld f) answer va = load_puts f answer
done_change (Ewb f) answer va = Some (Empties f (gone_by answer))
done_change action answer va = None

-- what an event changes: a load that is refused at its end leaves its frame nobody's
abbrev pub change_by : Event → Option ℕ → Option Change
change_by (Did action answer) va = done_change action answer va
change_by (Refused (Eld f) why) va = Some (Empties f None)
change_by event va = None

-- what the next entry changes
abbrev pub change_after : List Entry → Entry → Option Change
change_after past e = change_by e.event (va_number (vas_made past))

abbrev pub frame_changed : Change → ℕ
frame_changed (Puts f tenant) = f.0
frame_changed (Empties f went) = f.0

abbrev pub tenant_of : Change → Option Tenant
tenant_of (Puts f tenant) = Some tenant
tenant_of (Empties f went) = None

abbrev pub gone_of : Change → Option Gone
gone_of (Puts f tenant) = None
gone_of (Empties f went) = went

-- ---- whose a frame is

abbrev pub tenant_after : Option Change → ℕ → Option Tenant → Option Tenant
tenant_after None n before = before
tenant_after (Some change) n before = if frame_changed change == n then tenant_of change else before

-- the page that a frame has or awaits, by the last entry that put or took it
abbrev pub tenant : List Entry → ℕ → Option Tenant
tenant [] n = None
tenant (e ∷ past) n = tenant_after (change_after past e) n (tenant past n)

abbrev pub same_tenant : Tenant → Tenant → Bool
same_tenant (Has a) (Has b) = same_page a b
same_tenant (Has a) (Awaits b) = false
same_tenant (Awaits a) (Has b) = false
same_tenant (Awaits a) (Awaits b) = same_page a b

-- the tenant is this one
abbrev pub is_tenant : Option Tenant → Tenant → Bool
is_tenant None t = false
is_tenant (Some s) t = same_tenant s t

-- ---- the frames of a tenant

-- a number among rising ones, in its place
abbrev pub put_in : ℕ → List ℕ → List ℕ
put_in n [] = n ∷ []
put_in n (m ∷ ms) = if nat_lt m n then m ∷ put_in n ms else (if m == n then m ∷ ms else n ∷ m ∷ ms)

-- rising numbers without this one
abbrev pub take_out : ℕ → List ℕ → List ℕ
take_out n [] = []
take_out n (m ∷ ms) = if nat_lt m n then m ∷ take_out n ms else (if m == n then ms else m ∷ ms)

abbrev pub frames_after : Option Change → Tenant → List ℕ → List ℕ
frames_after None t before = before
frames_after (Some change) t before =
    if is_tenant (tenant_of change) t then put_in (frame_changed change) before else take_out (frame_changed change) before

-- the frames that have a page, or that await it, rising
abbrev pub frames_having : List Entry → Tenant → List ℕ
frames_having [] t = []
frames_having (e ∷ past) t = frames_after (change_after past e) t (frames_having past t)

-- the first of numbers, which is the least where they rise
abbrev pub least : List ℕ → Option ℕ
least [] = None
least (n ∷ ns) = Some n

-- ---- where a page is

abbrev pub version_by : Option Gone → Page → Option ℕ → Option ℕ
version_by None g before = before
version_by (Some went) g before = if same_page went.page g then Some went.version else before

abbrev pub gone_after : Option Change → Page → Option ℕ → Option ℕ
gone_after None g before = before
gone_after (Some change) g before = version_by (gone_of change) g before

-- the version with which a page went out last. That it comes back does not end it
abbrev pub gone_last : List Entry → Page → Option ℕ
gone_last [] g = None
gone_last (e ∷ past) g = gone_after (change_after past e) g (gone_last past g)

-- a page is in the frame that has it; else awaited by the frame that awaits it; else sealed under a version; else nowhere
abbrev pub where_by : Option ℕ → Option ℕ → Option ℕ → Where
where_by (Some n) awaiting version = At (record { 0 = n })
where_by None (Some n) version = Loading (record { 0 = n })
where_by None None (Some version) = Sealed version
where_by None None None = Nowhere

-- where a page is. Where two frames have it, or await it, the lesser one counts
abbrev pub place_of : List Entry → Page → Where
place_of past g = where_by (least (frames_having past (Has g))) (least (frames_having past (Awaits g))) (gone_last past g)

-- ---- moves

abbrev pub same_where : Where → Where → Bool
same_where Nowhere Nowhere = true
same_where (At f) (At k) = f.0 == k.0
same_where (Loading f) (Loading k) = f.0 == k.0
same_where (Sealed v) (Sealed w) = v == w
same_where here there = false

-- where a page is from now on, None where it is where it was
abbrev pub moved : Where → Where → Option Where
moved before after = if same_where before after then None else Some after

-- where the next entry moves a page to
abbrev pub moved_by : List Entry → Entry → Page → Option Where
moved_by past e g = moved (place_of past g) (place_of (e ∷ past) g)

-- ---- the pages of a change

abbrev pub page_of_tenant : Tenant → Page
page_of_tenant (Has g) = g
page_of_tenant (Awaits g) = g

-- the page of a frame's tenant
abbrev pub page_at_frame : Option Tenant → Option Page
page_at_frame None = None
page_at_frame (Some t) = Some (page_of_tenant t)

abbrev pub gone_page : Option Gone → Option Page
gone_page None = None
gone_page (Some went) = Some went.page

-- the page that a change names
abbrev pub page_named : Change → Option Page
page_named (Puts f t) = Some (page_of_tenant t)
page_named (Empties f went) = gone_page went

abbrev pub unless_same : Option Page → Page → Option Page
unless_same former g = if is_this former g then None else Some g

-- a page, None where it is the former one
abbrev pub other_than : Option Page → Option Page → Option Page
other_than former None = None
other_than former (Some g) = unless_same former g
