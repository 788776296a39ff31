-- The entries of a pass come with the calls that it made.
use Rattle.std.proofs.Common.{◌≡◌, inl, inr, ℕ, zero, suc, Bool, true, false, if◌then◌else◌, cond, refl, sym}
use Rattle.std.proofs.Common.{◌∙◌, ap, subst, List, [], ◌∷◌, Option, Some, None, MatchOption, drop, length, slice_get}
use Rattle.std.proofs.Common.{count_by}
use Rattle.std.proofs.lemmas.Bool.{eq-eqb}
use Rattle.std.specs.Option.{IsSomeAnd}
use Rattle.sgx_types.proofs.Pages.{same_page-refl, same_page-swap}
use Rattle.sgx_rules.specs.declared.entries.Action.{Action}
use Rattle.sgx_rules.specs.declared.entries.Action.TheVariants.{Block, Track, EwbStart, EldStart, Ewb}
use Rattle.sgx_types.specs.declared.names.Actor.TheVariants as actors
use Rattle.sgx_rules.specs.declared.entries.Answer.{Answer}
use Rattle.sgx_rules.specs.declared.entries.Answer.TheVariants.{Moved}
use Rattle.sgx_rules.specs.declared.entries.Entry.{Entry}
use Rattle.sgx_rules.specs.declared.entries.Event.{Event}
use Rattle.sgx_rules.specs.declared.entries.Event.TheVariants.{Did, Refused, Age}
use Rattle.sgx_rules.specs.declared.entries.Look.{Look}
use Rattle.sgx_rules.specs.declared.entries.Look.TheVariants as looks
use Rattle.sgx_types.specs.declared.names.Frame.{Frame}
use Rattle.sgx_types.specs.declared.names.Page.{Page}
use Rattle.sgx_types.specs.declared.names.SlotAt.{SlotAt}
use Rattle.sgx_types.specs.declared.names.VaSlot.{VaSlot}
use Rattle.sgx_rules.specs.declared.refusals.Refusal.{Refusal}
use Rattle.sgx_rules.specs.declared.refusals.Refusal.TheVariants as why
use Rattle.sgx_types.specs.Pages.{same_page}
use Rattle.sgx_types.specs.Making.{Making}
use Rattle.sgx_types.specs.Sealed.{Sealed}
use Rattle.sgx_rules.specs.Frames.{content, page_there}
use Rattle.sgx_types.specs.Cases.{first_of_row}
use Rattle.sgx_rules.proofs.Contents.{one_there, there_is}
use Rattle.job_grammar.specs.Jobs.{JobView}
use Rattle.epcm_entry.specs.inner.Epc.{is_free_frame}
use Rattle.machine_laws.specs.inner.State.{State, row_of}
use Rattle.machine_laws.specs.inner.Steps.{IsDone, IsStep, answer_of, did_by, refused_by}
use Rattle.machine_laws.proofs.ColumnLaws.{content_is}
use Rattle.sgx_machine.specs.inner.Parts.{Parts, state_of}
use Rattle.backing_store.specs.Calls.{Call, Put, Room}
use Rattle.driver_list.specs.inner.Active.{ActiveList, turned}
use Rattle.driver_list.specs.inner.Keeping.{kept_at, record_kept}
use Rattle.driver_list.specs.inner.Listing as listing
use Rattle.driver_list.specs.inner.Places.{IsPlaced, total}
use Rattle.driver_list.specs.inner.Ring.{is_listed}
use Rattle.driver_list.specs.declared.ring.Listed.{Listed}
use Rattle.driver_list.specs.inner.States.{state_of as page_state, with_state}
use Rattle.driver_list.specs.declared.page_states.PageState.{PageState}
use Rattle.driver_list.specs.declared.page_states.PageState.TheVariants as states
use Rattle.driver_list.proofs.StateLaws.{state_of-with_state}
use Rattle.driver_rules.specs.declared.waits.Why.{Why}
use Rattle.driver_rules.specs.declared.waits.Why.TheVariants as waits
use Rattle.driver_rules.specs.Places.{Leaving, place}
use Rattle.driver_laws.specs.inner.Sound.{is_absent}
use Rattle.driver_laws.proofs.StillLaws.{holds_here}
use Rattle.driver_tables.specs.declared.driver.Driver.{Driver}
use Rattle.driver_tables.specs.inner.Moves.{IsLooked, IsLookedAside, gone, leaving_of}
use Rattle.driver_pass.specs.declared.stages.Aside.{Aside}
use Rattle.driver_pass.specs.declared.stages.Aside.TheVariants as asides
use Rattle.driver_pass.specs.declared.stages.Form.{Form}
use Rattle.driver_pass.specs.declared.stages.Form.TheVariants as forms
use Rattle.driver_pass.specs.declared.stages.Stage.{Stage}
use Rattle.driver_pass.specs.declared.stages.Stage.TheVariants as stages
use Rattle.driver_pass.specs.declared.stages.Taken.{Taken}
use Rattle.driver_pass.specs.inner.Dues.{due_in}
use Rattle.driver_pass.specs.inner.Keeping.{keepers_by}
use Rattle.driver_pass.specs.inner.Standing.{AreInFrames, IsAside}
use Rattle.driver_pass.specs.inner.Viewed.{PassView, sealing_at, sealing_in, sealing_with, taken_at, waiting_by}
use Rattle.driver_reclaim.specs.declared.turns.PassTurn.{PassTurn}
use Rattle.driver_reclaim.specs.declared.turns.PassTurn.TheVariants as turns
use Rattle.driver_reclaim.specs.inner.Answers.{by_reclaimer}
use Rattle.driver_reclaim.specs.inner.Asked.{look_of, look_told, told_by}
use Rattle.driver_reclaim.specs.inner.Looked.{told_look}
use Rattle.driver_reclaim.specs.inner.Ready.{CanStep, Ready}
use Rattle.driver_reclaim.specs.inner.Rests.{IsWait}
use Rattle.driver_reclaim.specs.inner.Stored.{IsStored, StoredSays}
use Rattle.driver_reclaim.specs.inner.Turning.{AsideSays, DueSays, FormSays, IsMadeTurn, IsScanned, IsTryTurn, StageSays, ThirdSays}
use Rattle.driver_reclaim.specs.inner.Turning.{TurnSays, WithPage, turn_of}
use Rattle.history_rules.specs.Calls.{ComesWith, before}
use Rattle.run_calls.specs.inner.Stores.{StoreMoves, is_lost_state, lost_by}
use Rattle.run_calls.specs.inner.Comes.{Comes, Tells, TurnComes}
use Rattle.run_calls.proofs.TableLaws.{lost_same}

-- ---- entries without a call

record IsQuiet (e : Entry) : Type 0 where
  comes : (calls : List Call) → ComesWith e.event calls
  earlier : (calls : List Call) → before e.event calls ≡ calls
  no_start : (n : Frame) (page : Page) (slot : SlotAt) (answer : Answer) → e.event ≡ Did (EldStart n page slot) answer → ⊥
  no_put : (calls : List Call) (g : Page) (b : Bool) → lost_by e.event calls g b ≡ b
  no_look : look_of e.event ≡ None

-- tables with the same states and records
record IsSameStore (d d' : Driver) : Type 0 where
  states : d'.states ≡ d.states
  kept : d'.kept ≡ d.kept

same_store : (d d' : Driver) → d' ≡ d → IsSameStore d d'
same_store d d' same = record { states = ap (λ (x : Driver). x.states) same; kept = ap (λ (x : Driver). x.kept) same }

quiet_comes : (e : Entry) (calls : List Call) (d d' : Driver) → IsQuiet e → IsSameStore d d' → Comes e calls calls d d'
quiet_comes e calls d d' quiet same = record {
  comes = quiet.comes calls;
  earlier = quiet.earlier calls;
  moves = record {
    counts = ap (λ x. x.counts) same.states;
    given = λ p f g slot answer mine no. absurd (quiet.no_start f g slot answer no);
    others = λ p other. ap (λ k. record_kept (kept_at k p)) same.kept;
    lost = λ g here.
        ap (λ x. is_lost_state (page_state x g)) same.states
        ∙ sym (quiet.no_put calls g (is_lost_state (page_state d.states g)));
  };
}

-- a block, a track and a try, done or refused
abbrev is_paging : Action → Bool
is_paging (Block f) = true
is_paging (Track enclave) = true
is_paging (EwbStart f slot) = true
is_paging action = false

quiet_did : (action : Action) (answer : Answer) → is_paging action ≡ true → IsQuiet (did_by actors.Reclaimer action answer)
quiet_did (Block f) answer h =
    record { comes = λ calls. tt; earlier = λ calls. refl; no_start = λ n g s a no. cc; no_put = λ calls g b. refl; no_look = refl }
quiet_did (Track enclave) answer h =
    record { comes = λ calls. tt; earlier = λ calls. refl; no_start = λ n g s a no. cc; no_put = λ calls g b. refl; no_look = refl }
quiet_did (EwbStart f slot) answer h =
    record { comes = λ calls. tt; earlier = λ calls. refl; no_start = λ n g s a no. cc; no_put = λ calls g b. refl; no_look = refl }
quiet_did action answer h = cc

quiet_refused : (action : Action) (refusal : Refusal) → is_paging action ≡ true → IsQuiet (refused_by actors.Reclaimer action refusal)
quiet_refused (Block f) refusal h =
    record { comes = λ calls. tt; earlier = λ calls. refl; no_start = λ n g s a no. cc; no_put = λ calls g b. refl; no_look = refl }
quiet_refused (Track enclave) refusal h =
    record { comes = λ calls. tt; earlier = λ calls. refl; no_start = λ n g s a no. cc; no_put = λ calls g b. refl; no_look = refl }
quiet_refused (EwbStart f slot) refusal h =
    record { comes = λ calls. tt; earlier = λ calls. refl; no_start = λ n g s a no. cc; no_put = λ calls g b. refl; no_look = refl }
quiet_refused action refusal h = cc

step_quiet : (s t : State) (action : Action) (e : Entry) → is_paging action ≡ true
    → (IsDone s actors.Reclaimer action e t → e ≡ did_by actors.Reclaimer action (answer_of s actors.Reclaimer action))
    → IsStep s actors.Reclaimer action e t → IsQuiet e
step_quiet s t action e paging done = by_row (first_of_row (row_of s actors.Reclaimer action))
  where
    by_row : (o : Option Refusal) → MatchOption o (IsDone s actors.Reclaimer action e t)
        (λ refusal. (e ≡ refused_by actors.Reclaimer action refusal) × (t ≡ s)) → IsQuiet e
    by_row None is = rw (done is) (quiet_did action (answer_of s actors.Reclaimer action) paging)
    by_row (Some refusal) is = rw is.0 (quiet_refused action refusal paging)

-- ---- turns without an entry

waited : (turn : PassTurn) (reason : Why) (calls : List Call) (d d' : Driver) → turn ≡ turns.Again reason → (IsWait turn → d' ≡ d)
    → Tells (told_by (look_told turn) (Some calls)) (λ longer. TurnComes turn calls longer d d')
waited turn reason calls d d' is stays = rw is record { calls_are = refl; tables = stays (subst IsWait (sym is) tt) }

-- ---- looks

-- the head of the list is listed
head_listed : (xs : List Listed) (page : Page) → listing.head_of xs ≡ Some page → is_listed xs page ≡ true
head_listed [] page is = cc
head_listed (x ∷ xs) page is =
    let same : x.page ≡ page = cc in rw (same, same_page-refl page) refl

-- a look that goes to the tail
turned_moves : (d d' : Driver) (page : Page) (look : Look) (list : ActiveList) (calls : List Call) → d' ≡ record d { active = list }
    → StoreMoves (by_reclaimer (Age page look)) calls d d'
turned_moves d d' page look list calls is = record {
  counts = ap (λ (x : Driver). x.states.counts) is;
  given = λ p f g slot answer mine no. cc;
  others = λ p other. ap (λ (x : Driver). record_kept (kept_at x.kept p)) is;
  lost = λ g here. ap (λ (x : Driver). is_lost_state (page_state x.states g)) is;
}

-- a page that leaves is lost as it was
leaves : (x : PageState) → is_lost_state (leaving_of x) ≡ is_lost_state x
leaves (states.Here f) = refl
leaves (states.Leaving f) = refl
leaves (states.Loading f slot) = refl
leaves (states.Away slot) = refl
leaves (states.Lost slot) = refl
leaves states.Absent = refl

-- a look that changes nothing
still_moves : (d d' : Driver) (page : Page) (look : Look) (calls : List Call) → d' ≡ d
    → StoreMoves (by_reclaimer (Age page look)) calls d d'
still_moves d d' page look calls is = record {
  counts = ap (λ (x : Driver). x.states.counts) is;
  given = λ p f g slot answer mine no. cc;
  others = λ p other. ap (λ (x : Driver). record_kept (kept_at x.kept p)) is;
  lost = λ g here. ap (λ (x : Driver). is_lost_state (page_state x.states g)) is;
}

looked_moves : (d d' : Driver) (page : Page) (look : Look) (calls : List Call) → length d.states.states ≡ total d.states.counts
    → IsPlaced d.states.counts page → IsLooked d page look d' → StoreMoves (by_reclaimer (Age page look)) calls d d'
looked_moves d d' page looks.Taken calls sized placed is = record {
  counts = ap (λ (x : Driver). x.states.counts) is.others;
  given = λ p f g slot answer mine no. cc;
  others = λ p other. ap (λ (x : Driver). record_kept (kept_at x.kept p)) is.others;
  lost = λ g here.
      ap (λ (x : Driver). is_lost_state (page_state x.states g)) is.others
      ∙ lost_same d.states page g (leaving_of (page_state d.states page)) sized placed here (leaves (page_state d.states page));
}
looked_moves d d' page looks.Held calls sized placed is = turned_moves d d' page looks.Held (turned d.active) calls is
looked_moves d d' page looks.Young calls sized placed is = turned_moves d d' page looks.Young (turned d.active) calls is
looked_moves d d' page looks.NoRoom calls sized placed is = turned_moves d d' page looks.NoRoom (turned d.active) calls is

-- a look makes the calls that it tells of, where the tables have moved with each of them
comes_by : (page : Page) (look : Look) (calls : List Call) (d d' : Driver)
    → ((longer : List Call) → StoreMoves (by_reclaimer (Age page look)) longer d d')
    → Tells (told_look page look (Some calls)) (λ longer. Comes (by_reclaimer (Age page look)) calls longer d d')
comes_by page looks.Taken calls d d' moves = record { comes = (refl, refl); earlier = refl; moves = moves (Room page false ∷ calls) }
comes_by page looks.NoRoom calls d d' moves = record { comes = (refl, refl); earlier = refl; moves = moves (Room page true ∷ calls) }
comes_by page looks.Held calls d d' moves = record { comes = tt; earlier = refl; moves = moves calls }
comes_by page looks.Young calls d d' moves = record { comes = tt; earlier = refl; moves = moves calls }

look_comes : (page : Page) (look : Look) (calls : List Call) (d d' : Driver) → length d.states.states ≡ total d.states.counts
    → IsPlaced d.states.counts page → IsLooked d page look d'
    → Tells (told_look page look (Some calls)) (λ longer. Comes (by_reclaimer (Age page look)) calls longer d d')
look_comes page look calls d d' sized placed is =
    comes_by page look calls d d' (λ longer. looked_moves d d' page look longer sized placed is)

scan_tells : (v v' : PassView) (calls : List Call) (d d' : Driver) (turn : PassTurn) → d.states.counts ≡ d.active.counts
    → length d.states.states ≡ total d.states.counts → IsScanned v d turn v' d' → (IsWait turn → d' ≡ d)
    → Tells (told_by (look_told turn) (Some calls)) (λ longer. TurnComes turn calls longer d d')
scan_tells v v' calls d d' turn counts sized (inl is) stays =
    rw is.told
    (look_comes is.page is.look calls d d' sized
    (subst (λ c. IsPlaced c is.page) (sym counts) (is.sound.placed is.page (head_listed d.active.pages is.page is.head))) is.tables)
scan_tells v v' calls d d' turn counts sized (inr is) stays =
    rw is.1 record { calls_are = refl; tables = stays (subst IsWait (sym is.1) tt) }

-- a look at a page beside the passes
aside_moves : (d d' : Driver) (page : Page) (look : Look) (calls : List Call) → length d.states.states ≡ total d.states.counts
    → IsPlaced d.states.counts page → IsLookedAside d page look d' → StoreMoves (by_reclaimer (Age page look)) calls d d'
aside_moves d d' page looks.Taken calls sized placed is = record {
  counts = ap (λ (x : Driver). x.states.counts) is;
  given = λ p f g slot answer mine no. cc;
  others = λ p other. ap (λ (x : Driver). record_kept (kept_at x.kept p)) is;
  lost = λ g here.
      ap (λ (x : Driver). is_lost_state (page_state x.states g)) is
      ∙ lost_same d.states page g (leaving_of (page_state d.states page)) sized placed here (leaves (page_state d.states page));
}
aside_moves d d' page looks.Held calls sized placed is = still_moves d d' page looks.Held calls is
aside_moves d d' page looks.Young calls sized placed is = still_moves d d' page looks.Young calls is
aside_moves d d' page looks.NoRoom calls sized placed is = still_moves d d' page looks.NoRoom calls is

aside_comes : (page : Page) (look : Look) (calls : List Call) (d d' : Driver) → length d.states.states ≡ total d.states.counts
    → IsPlaced d.states.counts page → IsLookedAside d page look d'
    → Tells (told_look page look (Some calls)) (λ longer. Comes (by_reclaimer (Age page look)) calls longer d d')
aside_comes page look calls d d' sized placed is =
    comes_by page look calls d d' (λ longer. aside_moves d d' page look longer sized placed is)

-- ---- tries, tracks and blocks

-- an instruction asks nothing of the store
abbrev ComesAlone : PassTurn → List Call → Driver → Driver → Type 0
ComesAlone turn calls d d' = Tells (told_by (look_told turn) (Some calls)) (λ longer. TurnComes turn calls longer d d')

entry_comes : (e : Entry) (event : Event) (calls : List Call) (d d' : Driver) → look_of e.event ≡ None → Comes e calls calls d d'
    → ComesAlone (turn_of e event) calls d d'
entry_comes e (Did (EwbStart f slot) answer) calls d d' none comes = comes
entry_comes e (Refused action (why.NotTracked epoch older)) calls d d' none comes = rw none comes
entry_comes e (Refused action (why.SlotOccupied version)) calls d d' none comes = rw none comes
entry_comes e (Refused action refusal) calls d d' none comes = comes
entry_comes e event calls d d' none comes = rw none comes

made_tells : (action : Action) (v v' : PassView) (s t : State) (calls : List Call) (d d' : Driver) (turn : PassTurn)
    → is_paging action ≡ true
    → (((e : Entry) → IsDone s actors.Reclaimer action e t → e ≡ did_by actors.Reclaimer action (answer_of s actors.Reclaimer action)))
    → IsMadeTurn action v s turn v' t → IsSameStore d d' → ComesAlone turn calls d d'
made_tells action v v' s t calls d d' turn paging done is same =
    let quiet = step_quiet s t action is.entry paging (done is.entry) is.step in
    rw is.told (entry_comes is.entry is.entry.event calls d d' quiet.no_look (quiet_comes is.entry calls d d' quiet same))

try_tells : (one : Taken) (v v' : PassView) (s t : State) (calls : List Call) (d d' : Driver) (turn : PassTurn)
    → IsTryTurn one v d s turn v' d' t → (IsWait turn → d' ≡ d) → ComesAlone turn calls d d'
try_tells one v v' s t calls d d' turn (inl is) stays =
    let quiet = step_quiet s t (EwbStart one.frame is.tried.at) is.entry refl (λ k. k.0) is.tried.step in
    rw is.told (entry_comes is.entry is.entry.event calls d d' quiet.no_look
    (quiet_comes is.entry calls d d' quiet (record {
      states = ap (λ (x : Driver). x.states) is.tried.others;
      kept = ap (λ (x : Driver). x.kept) is.tried.others;
    })))
try_tells one v v' s t calls d d' turn (inr is) stays = waited turn waits.NoSlot calls d d' is.1 stays

third_tells : (count : ℕ) (one : Taken) (v v' : PassView) (s t : State) (calls : List Call) (d d' : Driver) (turn : PassTurn)
    → ThirdSays count one v d s turn v' d' t → (IsWait turn → d' ≡ d) → ComesAlone turn calls d d'
third_tells zero one v v' s t calls d d' turn is stays = try_tells one v v' s t calls d d' turn is stays
third_tells (suc n) one v v' s t calls d d' turn is stays = waited turn (waits.Older one.page.enclave (suc n)) calls d d' is stays

form_tells : (form : Form) (one : Taken) (v v' : PassView) (m m' : Parts) (calls : List Call) (d d' : Driver) (turn : PassTurn)
    → FormSays form one v d m turn v' d' m' → (IsWait turn → d' ≡ d) → ComesAlone turn calls d d'
form_tells forms.First one v v' m m' calls d d' turn is stays = try_tells one v v' (state_of m) (state_of m') calls d d' turn is stays
form_tells forms.Track one v v' m m' calls d d' turn is stays =
    made_tells (Track one.page.enclave) v v' (state_of m) (state_of m') calls d d' turn refl (λ e k. k.0) is.0 (same_store d d' is.1)
form_tells forms.Second one v v' m m' calls d d' turn is stays = try_tells one v v' (state_of m) (state_of m') calls d d' turn is stays
form_tells (forms.Kick epoch false) one v v' m m' calls d d' turn is stays =
    rw is.0.told record { calls_are = refl; tables = is.1.0 }
form_tells (forms.Kick epoch true) one v v' m m' calls d d' turn is stays =
    third_tells (length (keepers_by m one.page.enclave epoch)) one v v' (state_of m) (state_of m') calls d d' turn is stays
form_tells (forms.Third epoch) one v v' m m' calls d d' turn is stays =
    third_tells (length (keepers_by m one.page.enclave epoch)) one v v' (state_of m) (state_of m') calls d d' turn is stays
form_tells (forms.Kicks epoch next) one v v' m m' calls d d' turn is stays = absurd is
form_tells forms.Sealing one v v' m m' calls d d' turn is stays = absurd is

-- ---- all turns

with_page : (o : Option Taken) (turn : PassTurn) (calls : List Call) (d d' : Driver) (says : Taken → Type 0) → (IsWait turn → d' ≡ d)
    → ((one : Taken) → says one → ComesAlone turn calls d d') → WithPage o (turn ≡ turns.Again waits.AllHeld) says
    → ComesAlone turn calls d d'
with_page None turn calls d d' says stays tells is = waited turn waits.AllHeld calls d d' is stays
with_page (Some one) turn calls d d' says stays tells is = tells one is

stage_tells : (stage : Stage) (v v' : PassView) (calls : List Call) (d d' : Driver) (m m' : Parts) (turn : PassTurn)
    → d.states.counts ≡ d.active.counts → length d.states.states ≡ total d.states.counts → StageSays stage v d m turn v' d' m'
    → (IsWait turn → d' ≡ d) → ComesAlone turn calls d d'
stage_tells (stages.Idle false) v v' calls d d' m m' turn counts sized is stays =
    waited turn (waits.Enough (count_by is_free_frame m.epc)) calls d d' is stays
stage_tells (stages.Idle true) v v' calls d d' m m' turn counts sized (inl is) stays =
    scan_tells v v' calls d d' turn counts sized is.1 stays
stage_tells (stages.Idle true) v v' calls d d' m m' turn counts sized (inr is) stays =
    waited turn waits.AllHeld calls d d' is.1 stays
stage_tells (stages.Scan left) v v' calls d d' m m' turn counts sized is stays = scan_tells v v' calls d d' turn counts sized is stays
stage_tells (stages.Block next) v v' calls d d' m m' turn counts sized is stays =
    with_page (taken_at v next) turn calls d d'
    (λ one. IsMadeTurn (Block one.frame) v (state_of m) turn v' (state_of m') × (d' ≡ d)) stays
    (λ one k. made_tells (Block one.frame) v v' (state_of m) (state_of m') calls d d' turn refl (λ e x. x.0) k.0 (same_store d d' k.1)) is
stage_tells (stages.Tries next form) v v' calls d d' m m' turn counts sized is stays =
    with_page (taken_at v next) turn calls d d' (λ one. FormSays form one v d m turn v' d' m') stays
    (λ one k. form_tells form one v v' m m' calls d d' turn k stays) is

due_tells : (due : Option Page) (v v' : PassView) (calls : List Call) (d d' : Driver) (m m' : Parts) (turn : PassTurn)
    → d.states.counts ≡ d.active.counts → length d.states.states ≡ total d.states.counts
    → ((page : Page) → due ≡ Some page → IsPlaced d.states.counts page) → DueSays due v d m turn v' d' m'
    → (IsWait turn → d' ≡ d) → ComesAlone turn calls d d'
due_tells None v v' calls d d' m m' turn counts sized placed is stays =
    stage_tells v.stage v v' calls d d' m m' turn counts sized is stays
due_tells (Some page) v v' calls d d' m m' turn counts sized placed is stays =
    rw is.told (aside_comes page is.look calls d d' sized (placed page refl) is.tables)

aside_tells : (aside : Aside) (v v' : PassView) (calls : List Call) (d d' : Driver) (m m' : Parts) (turn : PassTurn)
    → d.states.counts ≡ d.active.counts → length d.states.states ≡ total d.states.counts → CanStep v d m
    → AsideSays aside v d m turn v' d' m' → (IsWait turn → d' ≡ d) → ComesAlone turn calls d d'
aside_tells asides.None v v' calls d d' m m' turn counts sized can is stays =
    due_tells (due_in d (state_of m) v.behind) v v' calls d d' m m' turn counts sized can.placed is stays
aside_tells (asides.ToGo one) v v' calls d d' m m' turn counts sized can is stays =
    let started = is.0.started in
    let quiet =
    step_quiet (state_of m) (state_of m') (EwbStart one.frame started.at) is.0.entry refl (λ k. k.0) started.step in
    rw is.0.told (entry_comes is.0.entry is.0.entry.event calls d d' quiet.no_look
    (quiet_comes is.0.entry calls d d' quiet (same_store d d' is.1)))
aside_tells (asides.Going one) v v' calls d d' m m' turn counts sized can is stays = absurd is

pub turn_tells : (calls : List Call) (v v' : PassView) (d d' : Driver) (m m' : Parts) (turn : PassTurn) (told : Option (List Call))
    → d.states.counts ≡ d.active.counts → length d.states.states ≡ total d.states.counts → CanStep v d m
    → TurnSays v d m turn v' d' m' → (IsWait turn → d' ≡ d) → told ≡ told_by (look_told turn) (Some calls)
    → Tells told (λ longer. TurnComes turn calls longer d d')
turn_tells calls v v' d d' m m' turn told counts sized can says stays is =
    rw is (aside_tells v.aside v v' calls d d' m m' turn counts sized can says stays)

-- ---- the end of a write-out

-- a page's put makes it lost or not
put_moves : (d d' : Driver) (page g : Page) (slot : VaSlot) (failed : Bool) → length d.states.states ≡ total d.states.counts
    → IsPlaced d.states.counts page → IsPlaced d.states.counts g → d'.states ≡ with_state d.states page (gone slot failed)
    → is_lost_state (page_state d'.states g) ≡ (if same_page page g then failed else is_lost_state (page_state d.states g))
put_moves d d' page g slot failed sized placed here is =
    ap (λ x. is_lost_state (page_state x g)) is
    ∙ ap is_lost_state (state_of-with_state d.states page g (gone slot failed) sized placed here)
    ∙ by_page (same_page g page) ∙ ap (λ b. if b then failed else is_lost_state (page_state d.states g)) (same_page-swap g page)
  where
    lost_gone : (b : Bool) → is_lost_state (gone slot b) ≡ b
    lost_gone true = refl
    lost_gone false = refl

    by_page : (b : Bool) → is_lost_state (cond b (gone slot failed) (page_state d.states g))
        ≡ (if b then failed else is_lost_state (page_state d.states g))
    by_page true = lost_gone failed
    by_page false = refl

-- .. by what is told of it
put_comes : (one : Taken) (slot : VaSlot) (calls : List Call) (d d' : Driver) (e : Entry) (rec : Sealed) (version : ℕ) (failed : Bool)
    (told : Option (List Call)) → length d.states.states ≡ total d.states.counts → IsPlaced d.states.counts one.page
    → e ≡ did_by actors.Reclaimer (Ewb one.frame) (Moved one.page version rec.tag) → told ≡ Some (Put one.page rec failed ∷ calls)
    → d' ≡ record d { states = with_state d.states one.page (gone slot failed) } → Tells told (λ longer. Comes e calls longer d d')
put_comes one slot calls d d' e rec version failed told sized placed entry call tables = rw (call, entry) record {
  comes = (refl, refl);
  earlier = refl;
  moves = record {
    counts = ap (λ (x : Driver). x.states.counts) tables;
    given = λ p f g s answer mine no. cc;
    others = λ p other. ap (λ (x : Driver). record_kept (kept_at x.kept p)) tables;
    lost = λ g here. put_moves d d' one.page g slot failed sized placed here (ap (λ (x : Driver). x.states) tables);
  };
}

-- ---- the page that has started to go out

in_frames : (past : List Entry) (next : ℕ) (taken : List Taken) (one : Taken) → AreInFrames past (drop next taken)
    → slice_get taken next ≡ Some one → place past one.page ≡ Leaving one.frame.0
in_frames past zero [] one h is = cc
in_frames past zero (t ∷ ts) one h is =
    let same : t ≡ one = cc in subst (λ (x : Taken). place past x.page ≡ Leaving x.frame.0) same h.0
in_frames past (suc n) [] one h is = cc
in_frames past (suc n) (t ∷ ts) one h is = in_frames past n ts one h is

stage_leaves : (past : List Entry) (taken : List Taken) (stage : Stage) (one : Taken) → AreInFrames past (waiting_by taken stage)
    → sealing_at taken stage ≡ Some one → place past one.page ≡ Leaving one.frame.0
stage_leaves past taken (stages.Tries next forms.Sealing) one h is = in_frames past next taken one h is
stage_leaves past taken _ one h is = cc

aside_leaves : (past : List Entry) (aside : Aside) (other : Option Taken) (one : Taken) → IsAside past aside
    → (other ≡ Some one → place past one.page ≡ Leaving one.frame.0) → sealing_with aside other ≡ Some one
    → place past one.page ≡ Leaving one.frame.0
aside_leaves past asides.None other one h of_pass is = of_pass is
aside_leaves past (asides.ToGo t) other one h of_pass is = of_pass is
aside_leaves past (asides.Going t) other one h of_pass is =
    let same : t ≡ one = cc in subst (λ (x : Taken). place past x.page ≡ Leaving x.frame.0) same h

pub stored_tells : (made : Making) (j : JobView) (past : List Entry) (calls : List Call) (v : PassView) (d d' : Driver) (m m' : Parts)
    (faults faults' : ℕ) (e : Entry) (told : Option (List Call)) → Ready made j past v d m
    → StoredSays v (state_of m) d (Some calls) faults e (state_of m') d' told faults' → Tells told (λ longer. Comes e calls longer d d')
stored_tells made j past calls v d d' m m' faults faults' e told r says = by_page (sealing_in v) refl says
  where
    stored : (one : Taken) → sealing_in v ≡ Some one → IsStored one (state_of m) d (Some calls) faults e (state_of m') d' told faults'
        → Tells told (λ longer. Comes e calls longer d d')
    stored one is k =
        let at : place past one.page ≡ Leaving one.frame.0 =
        aside_leaves past v.aside (sealing_at v.taken v.stage) one r.stands.leaves
        (stage_leaves past v.taken v.stage one r.stands.frames) is in
        let stood = holds_here past one.page (Leaving one.frame.0) one.frame.0 r.agrees.sound at (eq-eqb one.frame.0 one.frame.0 refl) in
        let page : k.out.leaving.page ≡ one.page =
        one_there (content past one.frame.0) k.out.leaving.page one.page
        (there_is (content past one.frame.0) k.out.leaving.page
        (ap page_there (sym (content_is r.agrees.follows.shape.columns one.frame.0)) ∙ k.out.leaving.held)) stood in
        put_comes one k.start.slot calls d d' e k.rec k.out.leaving.start.version k.failed told r.agrees.shows.sized
        (r.agrees.shows.placed one.page (ap is_absent at))
        (k.out.entry ∙ ap (λ g. did_by actors.Reclaimer (Ewb one.frame) (Moved g k.out.leaving.start.version k.rec.tag)) page) k.call
        k.tables

    by_page : (o : Option Taken) → sealing_in v ≡ o
        → IsSomeAnd o (λ one. IsStored one (state_of m) d (Some calls) faults e (state_of m') d' told faults')
        → Tells told (λ longer. Comes e calls longer d d')
    by_page None is k = absurd k
    by_page (Some one) is k = stored one is k
