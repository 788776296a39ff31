-- What the entries before a place say of the EPC's frames. Entries stand newest first: `past` is what was done before.
use Rattle.std.specs.Prelude.{ℕ, zero, suc, ◌+◌, ◌==◌, ◌&&◌, ◌||◌, not, Bool, true, false, if◌then◌else◌, List, []}
use Rattle.std.specs.Prelude.{◌∷◌, Option, Some, None}
use Rattle.sgx_types.specs.Counts.{count_below, least_below}
use Rattle.sgx_rules.specs.declared.entries.Entry.{Entry}
use Rattle.sgx_rules.specs.declared.entries.Event.{Event}
use Rattle.sgx_rules.specs.declared.entries.Event.TheVariants.{Did, Refused}
use Rattle.sgx_rules.specs.declared.entries.Action.TheVariants.{Epa, Create, Add, Block, EwbStart, Ewb, EldStart, Eld}
use Rattle.sgx_rules.specs.declared.entries.Answer.TheVariants.{Moved}
use Rattle.sgx_types.specs.declared.names.Page.{Page}
use Rattle.sgx_types.specs.declared.names.Kind.{Kind}
use Rattle.sgx_types.specs.declared.names.Perm.{Perm}
use Rattle.sgx_types.specs.Pages.{is_own_page, is_secs_page, is_va_page, page_at, same_page, secs_page, va_page}

-- what a frame holds: nothing, a version array page by its number (the first one made has 0), an enclave's SECS, a TCS or REG page
-- as it was added, or nothing yet but the page that it waits for
pub data Content : Type 0 where
  Free : Content
  IsVa : (number : ℕ) → Content
  SecsOf : (enclave : ℕ) → Content
  Holds : (page : Page) → (kind : Kind) → (perm : Perm) → Content
  IsLoading : (page : Page) → Content

abbrev pub added_by : Event → Page → Option (Kind × Perm) → Option (Kind × Perm)
added_by (Did (Add enclave number frame kind perm init) answer) g before =
    if same_page (page_at enclave number) g then Some (kind, perm) else before
added_by _ g before = before

-- the kind and permissions with which a page was added
abbrev pub added : List Entry → Page → Option (Kind × Perm)
added [] g = None
added (e ∷ past) g = added_by e.event g (added past g)

abbrev pub vas_after : Event → ℕ → ℕ
vas_after (Did (Epa f) answer) before = before + 1
vas_after _ before = before

-- how many version array pages were made
abbrev pub vas_made : List Entry → ℕ
vas_made [] = 0
vas_made (e ∷ past) = vas_after e.event (vas_made past)

-- what was made before an event: the kind and permissions with which each page was added, and how many version array pages
pub record Before : Type 0 where
  pub added : Page → Option (Kind × Perm)
  pub vas : ℕ

abbrev pub made_before : List Entry → Before
made_before past = record { added = added past; vas = vas_made past }

-- a frame, and what it holds from now on
pub record Put : Type 0 where
  pub frame : ℕ
  pub content : Content

-- a TCS or REG page that is back. One that was never added has no kind, and its frame goes on waiting for it: no list that keeps
-- the rule Refusal has such a reload, since a load starts only for a page that was added
abbrev pub reloaded_as : Page → Option (Kind × Perm) → Content
reloaded_as page None = IsLoading page
reloaded_as page (Some k) = Holds page k.0 k.1

-- a page that is back: a version array page by its number, the SECS of its enclave, or a page with its kind and permissions
abbrev pub reloaded : Page → Option (Kind × Perm) → Content
reloaded page kind =
    if is_va_page page then IsVa page.number else if is_secs_page page then SecsOf page.enclave else reloaded_as page kind

-- the frame whose content an event puts or takes
abbrev pub put_by : Event → Before → Option Put
put_by (Did (Epa f) answer) before = Some (record { frame = f.0; content = IsVa before.vas })
put_by (Did (Create enclave f base size) answer) before = Some (record { frame = f.0; content = SecsOf enclave })
put_by (Did (Add enclave number f kind perm init) answer) before =
    Some (record { frame = f.0; content = Holds (page_at enclave number) kind perm })
put_by (Did (EldStart f page slot) answer) before = Some (record { frame = f.0; content = IsLoading page })
put_by (Did (Ewb f) answer) before = Some (record { frame = f.0; content = Free })
put_by (Did (Eld f) (Moved page version tag)) before = Some (record { frame = f.0; content = reloaded page (before.added page) })
put_by (Refused (Eld f) why) before = Some (record { frame = f.0; content = Free })
put_by _ before = None

abbrev pub held_after : Option Put → ℕ → Content → Content
held_after None n before = before
held_after (Some put) n before = if put.frame == n then put.content else before

-- what a frame holds, by the last entry that put or took its content
abbrev pub content : List Entry → ℕ → Content
content [] n = Free
content (e ∷ past) n = held_after (put_by e.event (made_before past)) n (content past n)

abbrev pub sealing_after : Event → ℕ → Bool → Bool
sealing_after (Did (EwbStart f slot) answer) n before = if f.0 == n then true else before
sealing_after (Did (Ewb f) answer) n before = if f.0 == n then false else before
sealing_after _ n before = before

-- whether the page in a frame is on its way out
abbrev pub is_sealing : List Entry → ℕ → Bool
is_sealing [] n = false
is_sealing (e ∷ past) n = sealing_after e.event n (is_sealing past n)

abbrev pub is_put : Option Put → ℕ → Bool
is_put None n = false
is_put (Some put) n = put.frame == n

abbrev pub is_block : Event → ℕ → Bool
is_block (Did (Block f) answer) n = f.0 == n
is_block _ n = false

-- whether the page in a frame was blocked since it came there
abbrev pub is_blocked : List Entry → ℕ → Bool
is_blocked [] n = false
is_blocked (e ∷ past) n = is_block e.event n || (not (is_put (put_by e.event (made_before past)) n) && is_blocked past n)

-- the TCS or REG page that a frame holds
abbrev pub page_of : Content → Option Page
page_of Free = None
page_of (IsVa number) = None
page_of (SecsOf enclave) = None
page_of (Holds page kind perm) = Some page
page_of (IsLoading page) = None

-- the enclave whose TCS or REG page a frame holds
abbrev pub enclave_in : Content → Option ℕ
enclave_in (Holds page kind perm) = Some page.enclave
enclave_in _ = None

-- the frame holds this TCS or REG page
abbrev pub is_page : Content → Page → Bool
is_page (Holds page kind perm) g = same_page page g
is_page _ g = false

-- the page that a frame holds, of whatever type
abbrev pub page_there : Content → Option Page
page_there Free = None
page_there (IsVa number) = Some (va_page number)
page_there (SecsOf enclave) = Some (secs_page enclave)
page_there (Holds page kind perm) = Some page
page_there (IsLoading page) = None

abbrev pub is_this : Option Page → Page → Bool
is_this None g = false
is_this (Some page) g = same_page page g

-- the frame holds this page, of whatever type
abbrev pub stands : Content → Page → Bool
stands c g = is_this (page_there c) g

-- ---- an enclave's SECS and its resident pages

abbrev pub is_secs_of : Content → ℕ → Bool
is_secs_of (SecsOf enclave) e = enclave == e
is_secs_of _ e = false

-- the frame that holds an enclave's SECS, the least one where it stands in two
abbrev pub secs_frame : ℕ → (ℕ → Content) → ℕ → Option ℕ
secs_frame frames held e = least_below (λ n. is_secs_of (held n) e) frames

-- a TCS or REG page of the enclave is in the frame, or comes into it
abbrev pub is_child : Content → ℕ → Bool
is_child (Holds page kind perm) e = page.enclave == e
is_child (IsLoading page) e = is_own_page page && (page.enclave == e)
is_child _ e = false

-- how many of so many frames hold or load a TCS or REG page of an enclave
abbrev pub children : ℕ → (ℕ → Content) → ℕ → ℕ
children frames held e = count_below (λ n. is_child (held n) e) frames

-- ---- free frames

abbrev pub is_free : Content → Bool
is_free Free = true
is_free _ = false

-- the least free one of so many frames from a number on, by what each holds
abbrev pub free_from : (ℕ → Content) → ℕ → ℕ → Option ℕ
free_from held n zero = None
free_from held n (suc count) = if is_free (held n) then Some n else free_from held (n + 1) count

-- the least free frame of an EPC with so many
abbrev pub least_free : ℕ → (ℕ → Content) → Option ℕ
least_free frames held = free_from held 0 frames

abbrev pub frame_after : Event → Page → Option ℕ → Option ℕ
frame_after (Did (Add enclave number f kind perm init) answer) g before = if same_page (page_at enclave number) g then Some f.0 else before
frame_after (Did (Eld f) (Moved page version tag)) g before = if same_page page g then Some f.0 else before
frame_after (Did (Ewb f) (Moved page version tag)) g before = if same_page page g then None else before
frame_after _ g before = before

-- the frame that a page was last put into, None where it went out since or was never added
abbrev pub frame_of : List Entry → Page → Option ℕ
frame_of [] g = None
frame_of (e ∷ past) g = frame_after e.event g (frame_of past g)
