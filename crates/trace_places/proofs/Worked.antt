-- Where pages are in small lists of entries, worked out: some that a machine could make, and some that none could.
use Rattle.std.proofs.Common.{◌≡◌, ℕ, true, false, List, [], ◌∷◌, Some, None, refl}
use Rattle.sgx_types.specs.declared.lawful.PageInit.TheVariants as inits
use Rattle.sgx_types.specs.declared.names.Actor.TheVariants.{Builder, Reclaimer}
use Rattle.sgx_types.specs.declared.names.Frame.{Frame}
use Rattle.sgx_types.specs.declared.names.Kind.TheVariants as kinds
use Rattle.sgx_types.specs.declared.names.Page.{Page}
use Rattle.sgx_types.specs.declared.names.Perm.{Perm}
use Rattle.sgx_types.specs.declared.names.SlotAt.{SlotAt}
use Rattle.sgx_types.specs.Pages.{page_at, secs_page, va_page}
use Rattle.sgx_rules.specs.declared.entries.Action.{Action}
use Rattle.sgx_rules.specs.declared.entries.Action.TheVariants as actions
use Rattle.sgx_rules.specs.declared.entries.Answer.{Answer}
use Rattle.sgx_rules.specs.declared.entries.Answer.TheVariants as answers
use Rattle.sgx_rules.specs.declared.entries.Entry.{Entry}
use Rattle.sgx_rules.specs.declared.entries.Event.TheVariants.{Did, Refused}
use Rattle.sgx_rules.specs.declared.refusals.Refusal.TheVariants as why
use Rattle.trace_places.specs.declared.change.Tenant.TheVariants.{Has, Awaits}
use Rattle.trace_places.specs.declared.moves.Where.TheVariants.{Nowhere, At, Loading, Sealed}
use Rattle.trace_places.specs.Places.{va_number, tenant, frames_having, gone_last, place_of, moved_by}

-- ---- entries in short

abbrev frame : ℕ → Frame
frame n = record { 0 = n }

abbrev slot : SlotAt
slot = record { frame = frame 0; index = 0 }

abbrev read_write : Perm
read_write = record { r = true; w = true; x = false }

abbrev did : Action → Answer → Entry
did action answer = record { actor = Reclaimer; event = Did action answer }

-- a page of enclave 1 is added into a frame
abbrev adds : ℕ → ℕ → Entry
adds n number = did (actions.Add 1 number (frame n) kinds.Reg read_write (inits.Words 7)) answers.Plain

abbrev creates : ℕ → ℕ → Entry
creates n enclave = did (actions.Create enclave (frame n) 0x10000 0x10000) answers.Plain

abbrev makes_array : ℕ → Entry
makes_array n = did (actions.Epa (frame n)) (answers.Va 0)

-- what was in a frame is sealed, and the answer tells which page that was, and its version
abbrev writes_out : ℕ → Page → ℕ → Entry
writes_out n g version = did (actions.Ewb (frame n)) (answers.Moved g version [])

abbrev starts_load : ℕ → Page → Entry
starts_load n g = did (actions.EldStart (frame n) g slot) (answers.Version 7)

abbrev loads : ℕ → Page → ℕ → Entry
loads n g version = did (actions.Eld (frame n)) (answers.Moved g version [])

abbrev load_fails : ℕ → Entry
load_fails n = record { actor = Builder; event = Refused (actions.Eld (frame n)) (why.MacFail [] []) }

abbrev two : Page
two = page_at 1 2

-- ---- a page is added, goes out, and comes back at the second try

abbrev here : List Entry
here = adds 4 2 ∷ []

abbrev gone : List Entry
gone = writes_out 4 two 7 ∷ here

abbrev loading : List Entry
loading = starts_load 3 two ∷ gone

abbrev refused : List Entry
refused = load_fails 3 ∷ loading

abbrev loading_again : List Entry
loading_again = starts_load 3 two ∷ refused

abbrev back : List Entry
back = loads 3 two 7 ∷ loading_again

nowhere_at_first : place_of [] two ≡ Nowhere
nowhere_at_first = refl

added_in_four : place_of here two ≡ At (frame 4)
added_in_four = refl

four_has_it : tenant here 4 ≡ Some (Has two)
four_has_it = refl

no_other_page : place_of here (page_at 1 3) ≡ Nowhere
no_other_page = refl

sealed_under_seven : place_of gone two ≡ Sealed 7
sealed_under_seven = refl

four_is_nobodys : tenant gone 4 ≡ None
four_is_nobodys = refl

loading_into_three : place_of loading two ≡ Loading (frame 3)
loading_into_three = refl

three_awaits_it : tenant loading 3 ≡ Some (Awaits two)
three_awaits_it = refl

-- a load that is refused at its end leaves the page sealed as it was
sealed_as_before : place_of refused two ≡ Sealed 7
sealed_as_before = refl

three_is_nobodys : tenant refused 3 ≡ None
three_is_nobodys = refl

loaded_into_three : place_of back two ≡ At (frame 3)
loaded_into_three = refl

-- that the page is back does not end the version with which it went out
version_stays : gone_last back two ≡ Some 7
version_stays = refl

-- each of these entries moves the page once, and no other page
moves_in : moved_by [] (adds 4 2) two ≡ Some (At (frame 4))
moves_in = refl

moves_out : moved_by here (writes_out 4 two 7) two ≡ Some (Sealed 7)
moves_out = refl

moves_back : moved_by loading_again (loads 3 two 7) two ≡ Some (At (frame 3))
moves_back = refl

moves_no_other : moved_by here (writes_out 4 two 7) (page_at 1 3) ≡ None
moves_no_other = refl

-- ---- one page in two frames, which no machine allows: the lesser frame counts

abbrev in_two : List Entry
in_two = adds 2 2 ∷ adds 3 2 ∷ []

both_frames : frames_having in_two (Has two) ≡ 2 ∷ 3 ∷ []
both_frames = refl

lesser_counts : place_of in_two two ≡ At (frame 2)
lesser_counts = refl

-- the order in which they came is of no account
order_is_free : frames_having (adds 3 2 ∷ adds 2 2 ∷ []) (Has two) ≡ 2 ∷ 3 ∷ []
order_is_free = refl

greater_moves_nothing : moved_by (adds 2 2 ∷ []) (adds 3 2) two ≡ None
greater_moves_nothing = refl

-- where the lesser goes, the other one counts, though the page is sealed outside too
other_counts : place_of (writes_out 2 two 5 ∷ in_two) two ≡ At (frame 3)
other_counts = refl

-- a frame that awaits the page counts only where none has it
holder_counts_first : place_of (starts_load 1 two ∷ in_two) two ≡ At (frame 2)
holder_counts_first = refl

lesser_load_counts : place_of (starts_load 6 two ∷ starts_load 8 two ∷ gone) two ≡ Loading (frame 6)
lesser_load_counts = refl

-- ---- a load ends that never started, of a page that was never added

unstarted : place_of (loads 9 two 1 ∷ []) two ≡ At (frame 9)
unstarted = refl

-- .. and a page goes out that no frame had, while the page that was there is nowhere
other_went : place_of (writes_out 5 two 4 ∷ adds 5 3 ∷ []) two ≡ Sealed 4
other_went = refl

never_out : place_of (writes_out 5 two 4 ∷ adds 5 3 ∷ []) (page_at 1 3) ≡ Nowhere
never_out = refl

-- ---- the SECS of an enclave, and version array pages by the order in which they were made

abbrev arrays : List Entry
arrays = makes_array 6 ∷ creates 1 1 ∷ makes_array 0 ∷ []

secs_in_one : place_of arrays (secs_page 1) ≡ At (frame 1)
secs_in_one = refl

first_array : place_of arrays (va_page 0) ≡ At (frame 0)
first_array = refl

second_array : place_of arrays (va_page 1) ≡ At (frame 6)
second_array = refl

secs_went : place_of (writes_out 1 (secs_page 1) 9 ∷ arrays) (secs_page 1) ≡ Sealed 9
secs_went = refl

array_is_back : place_of (loads 5 (va_page 0) 10 ∷ writes_out 0 (va_page 0) 10 ∷ arrays) (va_page 0) ≡ At (frame 5)
array_is_back = refl

-- the last number that a page's name has room for, and the one past it
last_number : va_number 0xffffffff ≡ Some 0xffffffff
last_number = refl

no_number : va_number 0x100000000 ≡ None
no_number = refl
