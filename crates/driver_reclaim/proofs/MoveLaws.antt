-- A turn waits, kicks, or makes an entry with which the pass goes on.
use Rattle.std.proofs.Common.{◌≡◌, ◌≤◌, inl, inr, ℕ, zero, suc, Bool, true, false, if◌then◌else◌, refl, sym, ◌∙◌, ap, subst, Option}
use Rattle.std.proofs.Common.{Some, None}
use Rattle.std.proofs.Common.{length, slice_get, min, ◌-◌}
use Rattle.sgx_types.specs.Pages.{is_own_page}
use Rattle.sgx_types.specs.declared.names.Actor.TheVariants as actors
use Rattle.sgx_types.specs.declared.names.Page.{Page}
use Rattle.sgx_rules.specs.declared.entries.Action.{Action}
use Rattle.sgx_rules.specs.declared.entries.Action.TheVariants as actions
use Rattle.sgx_rules.specs.declared.entries.Entry.{Entry}
use Rattle.sgx_rules.specs.declared.entries.Event.{Event}
use Rattle.sgx_rules.specs.declared.entries.Event.TheVariants.{Age, Did, Refused}
use Rattle.sgx_rules.specs.declared.entries.Look.{Look}
use Rattle.sgx_rules.specs.declared.refusals.Refusal.{Refusal}
use Rattle.sgx_rules.specs.declared.refusals.Refusal.TheVariants as why
use Rattle.machine_laws.proofs.RowLaws.{IsEntryOf, step_entry}
use Rattle.machine_laws.specs.inner.State.{State}
use Rattle.machine_laws.specs.inner.Steps.{IsStep}
use Rattle.sgx_machine.specs.inner.Parts.{Parts, state_of}
use Rattle.driver_rules.specs.declared.waits.Why.{Why}
use Rattle.driver_rules.specs.declared.waits.Why.TheVariants as waits
use Rattle.driver_tables.specs.declared.driver.Driver.{Driver}
use Rattle.driver_pass.specs.declared.stages.Aside.{Aside}
use Rattle.driver_pass.specs.declared.stages.Aside.TheVariants as asides
use Rattle.driver_pass.specs.declared.stages.Form.{Form}
use Rattle.driver_pass.specs.declared.stages.Form.TheVariants as forms
use Rattle.driver_pass.specs.declared.stages.Stage.{Stage}
use Rattle.driver_pass.specs.declared.stages.Stage.TheVariants as stages
use Rattle.driver_pass.specs.declared.stages.Taken.{Taken}
use Rattle.driver_pass.specs.inner.Dues.{due_in}
use Rattle.driver_pass.specs.inner.Keeping.{keepers_by}
use Rattle.driver_pass.specs.inner.Noted.{after_block, after_done, after_instruction, after_look, after_page, after_refused}
use Rattle.driver_pass.specs.inner.Noted.{all_kicked, behind}
use Rattle.driver_pass.specs.inner.Noted.{gone_on, instructed, looked, not_tracked, occupied, passed_by, passed_own, unless_aside}
use Rattle.driver_pass.specs.inner.Viewed.{is_amid, is_amid_stage, PassView, still_out, taken_at}
use Rattle.driver_reclaim.specs.declared.turns.PassTurn.{PassTurn}
use Rattle.driver_reclaim.specs.declared.turns.PassTurn.TheVariants as turns
use Rattle.driver_reclaim.specs.inner.Answers.{bits_of, by_reclaimer}
use Rattle.driver_reclaim.specs.inner.Asked.{look_of, look_told, places_by, places_with}
use Rattle.driver_reclaim.specs.inner.Rests.{IsWait}
use Rattle.driver_reclaim.proofs.PlaceLaws.{instructed_room, kicked_room, looked_room}
use Rattle.driver_reclaim.specs.inner.Turning.{AsideSays, DueSays, FormSays, IsMadeTurn, IsScanned, IsTryTurn, StageSays, ThirdSays}
use Rattle.driver_reclaim.specs.inner.Turning.{turn_of}
use Rattle.driver_reclaim.specs.inner.Turning.{TurnSays, WithPage}

-- ---- no kicks are left of which some were made

amid_look : (left taken : ℕ) → is_amid_stage (after_look left taken) ≡ false
amid_look (suc left) taken = refl
amid_look zero zero = refl
amid_look zero (suc n) = refl

pub amid_looked : (d : Driver) (page : Page) (look : Look) (v : PassView) → is_amid v ≡ false → is_amid (looked d page look v) ≡ false
amid_looked d page look v whole = by_aside v.aside
  where
    by_stage : (stage : Stage) → is_amid (passed_by d page look v stage) ≡ false
    by_stage (stages.Idle works) =
        amid_look (min d.marks.scan (length d.active.pages) - 1) _
    by_stage (stages.Scan left) = amid_look (left - 1) _
    by_stage (stages.Block next) = whole
    by_stage (stages.Tries next form) = whole

    by_own : (b : Bool) → is_amid (if b then passed_by d page look v v.stage else v) ≡ false
    by_own true = by_stage v.stage
    by_own false = whole

    by_aside : (x : Aside) → is_amid (unless_aside x v (passed_own d page look v)) ≡ false
    by_aside asides.None = by_own (is_own_page page)
    by_aside (asides.ToGo t) = whole
    by_aside (asides.Going t) = whole

amid_block : (o : Option ℕ) → is_amid_stage (after_block o) ≡ false
amid_block None = refl
amid_block (Some next) = refl

amid_page : (o : Option ℕ) → is_amid_stage (after_page o) ≡ false
amid_page None = refl
amid_page (Some next) = refl

amid_done : (stage : Stage) (taken : ℕ) (action : Action) → is_amid_stage stage ≡ false
    → is_amid_stage (after_done stage taken action) ≡ false
amid_done (stages.Block next) taken (actions.Block f) h = amid_block (behind next taken)
amid_done (stages.Tries next form) taken (actions.EwbStart f slot) h = refl
amid_done (stages.Tries next form) taken (actions.Track enclave) h = refl
amid_done (stages.Tries next form) taken (actions.Ewb f) h = amid_page (behind next taken)
amid_done stage taken action h = h

amid_refused : (stage : Stage) (action : Action) (r : Refusal) → is_amid_stage stage ≡ false
    → is_amid_stage (after_refused stage action r) ≡ false
amid_refused (stages.Tries next form) (actions.EwbStart f slot) (why.NotTracked epoch older) h = by_form form h
  where
    by_form : (x : Form) → is_amid_stage (stages.Tries next x) ≡ false → is_amid_stage (stages.Tries next (not_tracked x epoch)) ≡ false
    by_form forms.First k = refl
    by_form forms.Second k = refl
    by_form form k = k
amid_refused (stages.Tries next form) (actions.EwbStart f slot) (why.SlotOccupied version) h = by_form form h
  where
    by_form : (x : Form) → is_amid_stage (stages.Tries next x) ≡ false → is_amid_stage (stages.Tries next (occupied x)) ≡ false
    by_form (forms.Kick epoch made) k = refl
    by_form form k = k
amid_refused stage action r h = h

pub amid_instructed : (event : Event) (v : PassView) → is_amid v ≡ false → is_amid (instructed event v) ≡ false
amid_instructed event v whole = by_aside v.aside
  where
    by_event : (ev : Event) → is_amid_stage (after_instruction v.stage (length v.taken) ev) ≡ false
    by_event (Did action answer) = amid_done v.stage (length v.taken) action whole
    by_event (Refused action refusal) = amid_refused v.stage action refusal whole
    by_event ev = whole

    by_aside : (x : Aside) → is_amid (unless_aside x v (record v { stage = after_instruction v.stage (length v.taken) event })) ≡ false
    by_aside asides.None = by_event event
    by_aside (asides.ToGo t) = whole
    by_aside (asides.Going t) = whole

-- ---- turns

-- only a look asks the store
none_told : (e : Entry) (ev : Event) → look_of e.event ≡ None → look_told (turn_of e ev) ≡ None
none_told e (Did (actions.EwbStart f slot) answer) h = refl
none_told e (Refused action (why.NotTracked epoch older)) h = h
none_told e (Refused action (why.SlotOccupied version)) h = h
none_told e (Refused action refusal) h = refl
none_told e ev h = h

pub data Moves (d : Driver) (m : Parts) (v : PassView) (turn : PassTurn) (v' : PassView) : Type 0 where
  Waited : (why : Why) → (turn ≡ turns.Again why) → Moves d m v turn v'
  KickedAll : (next epoch : ℕ) → (one : Taken) → (v.aside ≡ asides.None) → (due_in d (state_of m) v.behind ≡ None)
      → (v.stage ≡ stages.Tries next (forms.Kick epoch false)) → (slice_get v.taken next ≡ Some one)
      → (turn ≡ turns.Kicks (bits_of (keepers_by m one.page.enclave epoch)))
      → (v' ≡ all_kicked (length (keepers_by m one.page.enclave epoch)) v) → Moves d m v turn v'
  Entered : (event : Event) → (turn ≡ turn_of (by_reclaimer event) event) → (v' ≡ gone_on d m event v)
      → (is_amid v ≡ false → is_amid v' ≡ false)
      → ((n : ℕ) → still_out v ≤ n → still_out v' ≤ places_by (look_told turn) n) → Moves d m v turn v'

module _ (v v' : PassView) (d d' : Driver) (m m' : Parts) (turn : PassTurn) where
  abbrev Move : Type 0
  Move = Moves d m v turn v'

  -- an instruction
  made_moves : (action : Action) (e : Entry) (t : State) → IsStep (state_of m) actors.Reclaimer action e t → turn ≡ turn_of e e.event
      → v' ≡ instructed e.event v → Move
  made_moves action e t step told to = by_entry (step_entry (state_of m) t actors.Reclaimer action e step)
    where
      amid : is_amid v ≡ false → is_amid v' ≡ false
      amid whole = ap is_amid to ∙ amid_instructed e.event v whole

      -- no place is made
      room : (ev : Event) → look_of ev ≡ None → turn ≡ turn_of (by_reclaimer ev) ev → v' ≡ instructed ev v → (n : ℕ) → still_out v ≤ n
          → still_out v' ≤ places_by (look_told turn) n
      room ev none says becomes n low =
          subst (λ x. still_out v' ≤ places_by x n) (sym (ap look_told says ∙ none_told (by_reclaimer ev) ev none))
          (subst (λ x. still_out x ≤ n) (sym becomes) (instructed_room ev v n low))

      by_entry : IsEntryOf actors.Reclaimer action e → Move
      by_entry (inl (answer, is)) =
          let ev : Event = Did action answer in
          let says : turn ≡ turn_of (by_reclaimer ev) ev = told ∙ ap (λ (x : Entry). turn_of x x.event) is in
          let becomes : v' ≡ instructed ev v = to ∙ ap (λ (x : Entry). instructed x.event v) is in
          Entered ev says becomes amid (room ev refl says becomes)
      by_entry (inr (refusal, is)) =
          let ev : Event = Refused action refusal in
          let says : turn ≡ turn_of (by_reclaimer ev) ev = told ∙ ap (λ (x : Entry). turn_of x x.event) is in
          let becomes : v' ≡ instructed ev v = to ∙ ap (λ (x : Entry). instructed x.event v) is in
          Entered ev says becomes amid (room ev refl says becomes)

  -- a look
  look_moves : (page : Page) (look : Look) → turn ≡ turns.One (by_reclaimer (Age page look)) → v' ≡ looked d page look v → Move
  look_moves page look told to =
      Entered (Age page look) told to (λ whole. ap is_amid to ∙ amid_looked d page look v whole)
      (λ n low. subst (λ x. still_out v' ≤ places_by (look_told x) n) (sym told)
      (subst (λ x. still_out x ≤ places_with look n) (sym to) (looked_room d page look v n low)))

  scan_moves : IsScanned v d turn v' d' → Move
  scan_moves (inr none) = Waited waits.AllHeld none.1
  scan_moves (inl k) =
      look_moves k.page k.look k.told k.to

  try_moves : (one : Taken) → IsTryTurn one v d (state_of m) turn v' d' (state_of m') → Move
  try_moves one (inr none) = Waited waits.NoSlot none.1
  try_moves one (inl k) = made_moves (actions.EwbStart one.frame k.tried.at) k.entry (state_of m') k.tried.step k.told k.to

  third_moves : (n : ℕ) (one : Taken) → ThirdSays n one v d (state_of m) turn v' d' (state_of m') → Move
  third_moves zero one k = try_moves one k
  third_moves (suc n) one k = Waited (waits.Older one.page.enclave (suc n)) k

  form_moves : (next : ℕ) (form : Form) (one : Taken) → v.aside ≡ asides.None → due_in d (state_of m) v.behind ≡ None
      → v.stage ≡ stages.Tries next form → slice_get v.taken next ≡ Some one → FormSays form one v d m turn v' d' m' → Move
  form_moves next forms.First one alone none is found k = try_moves one k
  form_moves next forms.Second one alone none is found k = try_moves one k
  form_moves next forms.Track one alone none is found k =
      made_moves (actions.Track one.page.enclave) k.0.entry (state_of m') k.0.step k.0.told k.0.to
  form_moves next (forms.Kick epoch false) one alone none is found k = KickedAll next epoch one alone none is found k.0.told k.0.to
  form_moves next (forms.Kick epoch true) one alone none is found k = third_moves _ one k
  form_moves next (forms.Third epoch) one alone none is found k = third_moves _ one k
  form_moves next (forms.Kicks epoch place) one alone none is found k = absurd k
  form_moves next forms.Sealing one alone none is found k = absurd k

  with_one : (o : Option Taken) (says : Taken → Type 0) → ((one : Taken) → o ≡ Some one → says one → Move)
      → WithPage o (turn ≡ turns.Again waits.AllHeld) says → Move
  with_one None says f k = Waited waits.AllHeld k
  with_one (Some one) says f k = f one refl k

  stage_moves : v.aside ≡ asides.None → due_in d (state_of m) v.behind ≡ None → (stage : Stage) → v.stage ≡ stage
      → StageSays stage v d m turn v' d' m' → Move
  stage_moves alone none (stages.Idle false) is k = Waited _ k
  stage_moves alone none (stages.Idle true) is (inl k) = scan_moves k.1
  stage_moves alone none (stages.Idle true) is (inr k) = Waited waits.AllHeld k.1
  stage_moves alone none (stages.Scan left) is k = scan_moves k
  stage_moves alone none (stages.Block next) is k =
      with_one (taken_at v next) (λ one. IsMadeTurn (actions.Block one.frame) v (state_of m) turn v' (state_of m') × (d' ≡ d))
      (λ one found says. made_moves (actions.Block one.frame) says.0.entry (state_of m') says.0.step says.0.told says.0.to) k
  stage_moves alone none (stages.Tries next form) is k =
      with_one (taken_at v next) (λ one. FormSays form one v d m turn v' d' m')
      (λ one found says. form_moves next form one alone none is found says) k

  due_moves : v.aside ≡ asides.None → (o : Option Page) → due_in d (state_of m) v.behind ≡ o → DueSays o v d m turn v' d' m' → Move
  due_moves alone (Some page) is k =
      look_moves page k.look k.told k.to
  due_moves alone None is k = stage_moves alone is v.stage refl k

  pub turn_moves : TurnSays v d m turn v' d' m' → Move
  turn_moves k = by_aside v.aside refl k
    where
      by_aside : (x : Aside) → v.aside ≡ x → AsideSays x v d m turn v' d' m' → Move
      by_aside (asides.ToGo one) is says =
          made_moves (actions.EwbStart one.frame says.0.started.at) says.0.entry (state_of m') says.0.started.step says.0.told says.0.to
      by_aside (asides.Going one) is says = absurd says
      by_aside asides.None is says = due_moves is (due_in d (state_of m) v.behind) refl says

-- each page that has still to go out keeps its place
pub places_kept : (v v' : PassView) (d d' : Driver) (m m' : Parts) (turn : PassTurn) (n : ℕ) → TurnSays v d m turn v' d' m'
    → (IsWait turn → v' ≡ v) → still_out v ≤ n → still_out v' ≤ places_by (look_told turn) n
places_kept v v' d d' m m' turn n k waits low = by_move (turn_moves v v' d d' m m' turn k)
  where
    by_move : Moves d m v turn v' → still_out v' ≤ places_by (look_told turn) n
    by_move (Waited why told) =
        subst (λ x. still_out v' ≤ places_by (look_told x) n) (sym told)
        (subst (λ x. still_out x ≤ n) (sym (waits (subst IsWait (sym told) tt))) low)
    by_move (KickedAll next epoch one alone none is found told to) =
        subst (λ x. still_out v' ≤ places_by (look_told x) n) (sym told)
        (subst (λ x. still_out x ≤ n) (sym to) (kicked_room (length (keepers_by m one.page.enclave epoch)) v n low))
    by_move (Entered event told to amid room) = room n low
