-- Each page that has still to go out keeps its place in the store.
use Rattle.std.proofs.Common.{◌≡◌, ◌≤◌, ℕ, zero, suc, ◌+◌, ◌-◌, Bool, true, false, if◌then◌else◌, refl, subst}
use Rattle.std.proofs.Common.{List, [], ◌∷◌, ◌++◌, Option, Some, None, drop, length, min, nat_lt, slice_get, arith}
use Rattle.std.proofs.lemmas.List.{length-append}
use Rattle.std.specs.Option.{option_to_list}
use Rattle.sgx_types.specs.Pages.{is_own_page}
use Rattle.sgx_types.specs.declared.names.Page.{Page}
use Rattle.sgx_rules.specs.declared.entries.Action.{Action}
use Rattle.sgx_rules.specs.declared.entries.Action.TheVariants as actions
use Rattle.sgx_rules.specs.declared.entries.Answer.{Answer}
use Rattle.sgx_rules.specs.declared.entries.Event.{Event}
use Rattle.sgx_rules.specs.declared.entries.Event.TheVariants.{Did, Refused}
use Rattle.sgx_rules.specs.declared.entries.Look.{Look}
use Rattle.sgx_rules.specs.declared.entries.Look.TheVariants as looks
use Rattle.sgx_rules.specs.declared.refusals.Refusal.{Refusal}
use Rattle.sgx_rules.specs.declared.refusals.Refusal.TheVariants as why
use Rattle.sgx_types.specs.declared.names.Frame.{Frame}
use Rattle.driver_tables.specs.declared.driver.Driver.{Driver}
use Rattle.driver_pass.specs.declared.stages.Aside.{Aside}
use Rattle.driver_pass.specs.declared.stages.Aside.TheVariants as asides
use Rattle.driver_pass.specs.declared.stages.Form.TheVariants as forms
use Rattle.driver_pass.specs.declared.stages.Stage.{Stage}
use Rattle.driver_pass.specs.declared.stages.Stage.TheVariants as stages
use Rattle.driver_pass.specs.declared.stages.Taken.{Taken}
use Rattle.driver_pass.specs.inner.Noted.{after_block, after_done, after_instruction, after_look, after_page, after_refused, all_kicked}
use Rattle.driver_pass.specs.inner.Noted.{all_kicked_stage, aside_instructed, aside_of, behind, instructed, looked}
use Rattle.driver_pass.specs.inner.Noted.{passed_by, taken_by, unless_aside, with_taken}
use Rattle.driver_pass.specs.inner.Viewed.{count_aside, PassView, sealing_at, sealing_in, sealing_with, still_out, waiting_by}
use Rattle.driver_reclaim.specs.inner.Asked.{places_with}

-- how many pages of a pass have not gone out
abbrev waiting : PassView → ℕ
waiting v = length (waiting_by v.taken v.stage)

more_places : (look : Look) (n : ℕ) → n ≤ places_with look n
more_places looks.Taken n = omega arith
more_places looks.Held n = omega arith
more_places looks.Young n = omega arith
more_places looks.NoRoom n = omega arith

places_up : (look : Look) (m n : ℕ) → m ≤ n → places_with look m ≤ places_with look n
places_up looks.Taken m n low = omega (arith, low)
places_up looks.Held m n low = low
places_up looks.Young m n low = low
places_up looks.NoRoom m n low = low

-- ---- looks

waits_looked : (taken : List Taken) (left count : ℕ) → length (waiting_by taken (after_look left count)) ≤ length taken
waits_looked taken (suc left) count = omega arith
waits_looked taken zero zero = omega arith
waits_looked taken zero (suc n) = omega arith

one_more : (d : Driver) (page : Page) (look : Look) (taken : List Taken)
    → length (with_taken taken (taken_by d page look)) ≤ places_with look (length taken)
one_more d page look taken = by_room (nat_lt (length taken) 64) look
  where
    by_room : (b : Bool) (l : Look)
        → length (if b then taken ++ option_to_list (taken_by d page l) else taken) ≤ places_with l (length taken)
    by_room false l = more_places l (length taken)
    by_room true looks.Taken = omega (arith, length-append taken (option_to_list (taken_by d page looks.Taken)))
    by_room true looks.Held = omega (arith, length-append taken (option_to_list (taken_by d page looks.Held)))
    by_room true looks.Young = omega (arith, length-append taken (option_to_list (taken_by d page looks.Young)))
    by_room true looks.NoRoom = omega (arith, length-append taken (option_to_list (taken_by d page looks.NoRoom)))

passed_room : (d : Driver) (page : Page) (look : Look) (v : PassView) (stage : Stage) (n : ℕ) → v.stage ≡ stage → waiting v ≤ n
    → waiting (passed_by d page look v stage) ≤ places_with look n
passed_room d page look v (stages.Idle works) n is low =
    let first = waits_looked (with_taken [] (taken_by d page look)) (min d.marks.scan (length d.active.pages) - 1)
    (length (with_taken [] (taken_by d page look))) in
    let more = one_more d page look [] in
    let up = places_up look 0 n (omega arith) in omega (arith, first, more, up)
passed_room d page look v (stages.Scan left) n is low =
    let first = waits_looked (with_taken v.taken (taken_by d page look)) (left - 1) (length (with_taken v.taken (taken_by d page look))) in
    let more = one_more d page look v.taken in
    let enough : length v.taken ≤ n = subst (λ x. length (waiting_by v.taken x) ≤ n) is low in
    let up = places_up look (length v.taken) n enough in omega (arith, first, more, up)
passed_room d page look v (stages.Block next) n is low = let more = more_places look n in omega (arith, low, more)
passed_room d page look v (stages.Tries next form) n is low = let more = more_places look n in omega (arith, low, more)

aside_room : (d : Driver) (page : Page) (l : Look) (w n : ℕ) → w ≤ n → w + count_aside (aside_of (taken_by d page l)) ≤ places_with l n
aside_room d page looks.Taken w n low = omega (arith, low)
aside_room d page looks.Held w n low = omega (arith, low)
aside_room d page looks.Young w n low = omega (arith, low)
aside_room d page looks.NoRoom w n low = omega (arith, low)

pub looked_room : (d : Driver) (page : Page) (look : Look) (v : PassView) (n : ℕ) → still_out v ≤ n
    → still_out (looked d page look v) ≤ places_with look n
looked_room d page look v n low = by_own (is_own_page page) v.aside
  where
    first : waiting v ≤ n
    first = omega (arith, low)

    by_own : (b : Bool) (x : Aside) → waiting (unless_aside x v (if b then passed_by d page look v v.stage else v))
        + count_aside (if b then asides.None else aside_of (taken_by d page look)) ≤ places_with look n
    by_own true asides.None = let more = passed_room d page look v v.stage n refl first in omega (arith, more)
    by_own true (asides.ToGo t) = let more = more_places look n in omega (arith, first, more)
    by_own true (asides.Going t) = let more = more_places look n in omega (arith, first, more)
    by_own false asides.None = aside_room d page look (waiting v) n first
    by_own false (asides.ToGo t) = aside_room d page look (waiting v) n first
    by_own false (asides.Going t) = aside_room d page look (waiting v) n first

-- ---- instructions

drop_less : (n : ℕ) (xs : List Taken) → length (drop (n + 1) xs) ≤ length (drop n xs)
drop_less zero [] = omega arith
drop_less zero (x ∷ xs) = omega arith
drop_less (suc n) [] = let e : suc n + 1 ≡ suc (n + 1) = omega arith in rw e (omega arith)
drop_less (suc n) (x ∷ xs) = let e : suc n + 1 ≡ suc (n + 1) = omega arith in rw e (drop_less n xs)

waits_block : (taken : List Taken) (o : Option ℕ) → length (waiting_by taken (after_block o)) ≤ length taken
waits_block taken None = omega arith
waits_block taken (Some next) = omega arith

waits_page : (taken : List Taken) (next : ℕ) → length (waiting_by taken (after_page (behind next (length taken)))) ≤ length
    (drop next taken)
waits_page taken next = by_test (nat_lt (next + 1) (length taken))
  where
    by_test : (b : Bool) → length (waiting_by taken (after_page (if b then Some (next + 1) else None))) ≤ length (drop next taken)
    by_test true = drop_less next taken
    by_test false = omega arith

waits_done : (taken : List Taken) (stage : Stage) (action : Action)
    → length (waiting_by taken (after_done stage (length taken) action)) ≤ length (waiting_by taken stage)
waits_done taken (stages.Block next) (actions.Block f) = waits_block taken (behind next (length taken))
waits_done taken (stages.Tries next form) (actions.EwbStart f slot) = omega arith
waits_done taken (stages.Tries next form) (actions.Track enclave) = omega arith
waits_done taken (stages.Tries next form) (actions.Ewb f) = waits_page taken next
waits_done taken stage action = omega arith

waits_refused : (taken : List Taken) (stage : Stage) (action : Action) (r : Refusal)
    → length (waiting_by taken (after_refused stage action r)) ≤ length (waiting_by taken stage)
waits_refused taken (stages.Tries next form) (actions.EwbStart f slot) (why.NotTracked epoch older) = omega arith
waits_refused taken (stages.Tries next form) (actions.EwbStart f slot) (why.SlotOccupied version) = omega arith
waits_refused taken stage action r = omega arith

waits_instruction : (taken : List Taken) (stage : Stage) (event : Event)
    → length (waiting_by taken (after_instruction stage (length taken) event)) ≤ length (waiting_by taken stage)
waits_instruction taken stage (Did action answer) = waits_done taken stage action
waits_instruction taken stage (Refused action refusal) = waits_refused taken stage action refusal
waits_instruction taken stage event = omega arith

none_aside : (event : Event) → count_aside (aside_instructed event asides.None) ≤ 0
none_aside (Did (actions.EwbStart f slot) answer) = omega arith
none_aside (Did (actions.Ewb f) answer) = omega arith
none_aside event = omega arith

to_aside : (event : Event) (t : Taken) → count_aside (aside_instructed event (asides.ToGo t)) ≤ 1
to_aside (Did (actions.EwbStart f slot) answer) t = omega arith
to_aside (Did (actions.Ewb f) answer) t = omega arith
to_aside event t = omega arith

going_aside : (event : Event) (t : Taken) → count_aside (aside_instructed event (asides.Going t)) ≤ 1
going_aside (Did (actions.EwbStart f slot) answer) t = omega arith
going_aside (Did (actions.Ewb f) answer) t = omega arith
going_aside event t = omega arith

pub instructed_room : (event : Event) (v : PassView) (n : ℕ) → still_out v ≤ n → still_out (instructed event v) ≤ n
instructed_room event v n low = by_aside v.aside low
  where
    by_aside : (x : Aside) → waiting v + count_aside x ≤ n
        → waiting (unless_aside x v (record v { stage = after_instruction v.stage (length v.taken) event }))
        + count_aside (aside_instructed event x) ≤ n
    by_aside asides.None k =
        let less = waits_instruction v.taken v.stage event in
        let none = none_aside event in omega (arith, k, less, none)
    by_aside (asides.ToGo t) k = let most = to_aside event t in omega (arith, k, most)
    by_aside (asides.Going t) k = let most = going_aside event t in omega (arith, k, most)

-- ---- kicks

pub kicked_room : (count : ℕ) (v : PassView) (n : ℕ) → still_out v ≤ n → still_out (all_kicked count v) ≤ n
kicked_room count v n low = by_stage v.stage low
  where
    by_stage : (stage : Stage) → length (waiting_by v.taken stage) + count_aside v.aside ≤ n
        → length (waiting_by v.taken (all_kicked_stage count stage)) + count_aside v.aside ≤ n
    by_stage (stages.Tries next form) k = k
    by_stage (stages.Idle works) k = k
    by_stage (stages.Scan left) k = k
    by_stage (stages.Block next) k = k

-- ---- the end of a write-out

drop_one : (n : ℕ) (xs : List Taken) (x : Taken) → slice_get xs n ≡ Some x → length (drop (n + 1) xs) + 1 ≤ length (drop n xs)
drop_one zero [] x h = cc
drop_one zero (y ∷ ys) x h = omega arith
drop_one (suc n) [] x h = cc
drop_one (suc n) (y ∷ ys) x h = let e : suc n + 1 ≡ suc (n + 1) = omega arith in rw e (drop_one n ys x h)

-- it uses the place of its page
pub ended_room : (f : Frame) (answer : Answer) (one : Taken) (v : PassView) (n n' : ℕ) → sealing_in v ≡ Some one → n' + 1 ≡ n
    → still_out v ≤ n → still_out (instructed (Did (actions.Ewb f) answer) v) ≤ n'
ended_room f answer one v n n' is used low = by_aside v.aside is low
  where
    by_stage : (stage : Stage) → sealing_at v.taken stage ≡ Some one → length (waiting_by v.taken stage) ≤ n
        → length (waiting_by v.taken (after_done stage (length v.taken) (actions.Ewb f))) ≤ n'
    by_stage (stages.Tries next forms.Sealing) found k = by_test (nat_lt (next + 1) (length v.taken))
      where
        less : length (drop (next + 1) v.taken) + 1 ≤ length (drop next v.taken)
        less = drop_one next v.taken one found

        by_test : (b : Bool) → length (waiting_by v.taken (after_page (if b then Some (next + 1) else None))) ≤ n'
        by_test true = omega (arith, less, k, used)
        by_test false = omega arith
    by_stage stage found k = cc

    by_aside : (x : Aside) → sealing_with x (sealing_at v.taken v.stage) ≡ Some one → waiting v + count_aside x ≤ n
        → waiting (unless_aside x v (record v { stage = after_done v.stage (length v.taken) (actions.Ewb f) }))
        + 0 ≤ n'
    by_aside asides.None found k = let less = by_stage v.stage found (omega (arith, k)) in omega (arith, less)
    by_aside (asides.ToGo t) found k = omega (arith, k, used)
    by_aside (asides.Going t) found k = omega (arith, k, used)
