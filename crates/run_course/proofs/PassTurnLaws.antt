-- What a turn of the pass leaves, and what it tells of what is due.
use Rattle.std.proofs.Common.{◌≡◌, inl, inr, ℕ, zero, suc, ◌⊎◌, ◌==◌, ◌^◌, Bool, true, false}
use Rattle.std.proofs.Common.{if◌then◌else◌, Option, Some, None, is_some, length, slice_get, refl, sym, ap, subst, ◌∙◌}
use Rattle.sgx_rules.specs.declared.entries.Action.{Action}
use Rattle.sgx_rules.specs.declared.entries.Action.TheVariants.{Block, Track, EwbStart}
use Rattle.sgx_types.specs.declared.names.Actor.TheVariants as actors
use Rattle.sgx_rules.specs.declared.entries.Answer.{Answer}
use Rattle.sgx_rules.specs.declared.entries.Answer.TheVariants as answers
use Rattle.sgx_rules.specs.declared.entries.Entry.{Entry}
use Rattle.sgx_rules.specs.declared.entries.Event.{Event}
use Rattle.sgx_rules.specs.declared.entries.Event.TheVariants.{Did, Refused}
use Rattle.sgx_rules.specs.declared.entries.Look.{Look}
use Rattle.sgx_rules.specs.declared.entries.Look.TheVariants as looks
use Rattle.sgx_types.specs.declared.names.Frame.{Frame}
use Rattle.sgx_types.specs.declared.names.Page.{Page}
use Rattle.sgx_types.specs.declared.names.SlotAt.{SlotAt}
use Rattle.sgx_types.specs.declared.names.VaSlot.{VaSlot}
use Rattle.sgx_types.specs.declared.names.TheConstants.{LAST_EPOCH}
use Rattle.sgx_types.specs.Making.{Making}
use Rattle.sgx_types.specs.Pages.{is_own_page}
use Rattle.sgx_rules.specs.declared.refusals.Refusal.TheVariants as why
use Rattle.sgx_rules.specs.Epochs.{epoch, epoch_in}
use Rattle.sgx_rules.specs.Eviction.{is_drained, kept_back}
use Rattle.sgx_rules.specs.Slots.{next_version}
use Rattle.std.specs.Prelude.{List}
use Rattle.job_grammar.specs.Jobs.{JobView}
use Rattle.machine_laws.proofs.RowLaws.{IsEntryOf, step_entry}
use Rattle.sgx_machine.specs.inner.Parts.{Parts, state_of}
use Rattle.driver_slots.specs.inner.Keeper.{AllOut, Keeper}
use Rattle.driver_rules.specs.Dues.{Due, KicksAll, LooksAt, Makes, TriesOut, Waits}
use Rattle.driver_rules.specs.Stops.{is_bus}
use Rattle.driver_rules.specs.inner.Stops.{frame_started}
use Rattle.driver_rules.specs.declared.waits.Why.{Why}
use Rattle.driver_rules.specs.declared.waits.Why.TheVariants as waits
use Rattle.driver_tables.specs.declared.driver.Driver.{Driver}
use Rattle.driver_tables.specs.inner.Moves.{IsLooked, IsLookedAside}
use Rattle.driver_pass.specs.declared.stages.Aside.{Aside}
use Rattle.driver_pass.specs.declared.stages.Aside.TheVariants as asides
use Rattle.driver_pass.specs.declared.stages.Form.{Form}
use Rattle.driver_pass.specs.declared.stages.Form.TheVariants as forms
use Rattle.driver_pass.specs.declared.stages.Stage.{Stage}
use Rattle.driver_pass.specs.declared.stages.Stage.TheVariants as stages
use Rattle.driver_pass.specs.declared.stages.Taken.{Taken}
use Rattle.driver_pass.specs.inner.Dues.{due_in}
use Rattle.driver_pass.specs.inner.Noted.{instructed}
use Rattle.driver_pass.specs.inner.Viewed.{is_kicked, is_kicked_stage, is_sealing, PassView, taken_at}
use Rattle.driver_reclaim.specs.declared.turns.PassTurn.{PassTurn}
use Rattle.driver_reclaim.specs.declared.turns.PassTurn.TheVariants as turns
use Rattle.driver_reclaim.specs.inner.Answers.{bits_of, by_reclaimer, IsTryOut, IsTurn, start_turn, track_turn, try_turn}
use Rattle.driver_reclaim.specs.inner.Tried.{SlotsAfter}
use Rattle.driver_reclaim.specs.inner.Turning.{AsideSays, DueSays, FormSays, IsMadeTurn, IsScanned, IsTryTurn, StageSays, ThirdSays}
use Rattle.driver_reclaim.specs.inner.Turning.{turn_of, TurnSays, WithPage}
use Rattle.due_notes.specs.inner.Arrays.{HasAsMany}
use Rattle.sgx_types.specs.Pages.{frame_at}
use Rattle.due_tables.specs.inner.Entries.{EntersApart}

-- ---- what a turn leaves

-- the holds, and how many pages the keeper of the slots has
pub record LeavesDriver (d d' : Driver) : Type 0 where
  pub own : d'.active.own ≡ d.active.own
  pub many : HasAsMany d.slots d'.slots

-- with an entry by which a write-out has started the pass waits for its bytes; kicks are made before the turn of kicks was made
abbrev pub Leaves : PassView → PassView → Driver → Driver → PassTurn → Type 0
Leaves v v' d d' (turns.One e) = LeavesDriver d d'
Leaves v v' d d' (turns.Spent e) = LeavesDriver d d'
Leaves v v' d d' (turns.Seal e) = LeavesDriver d d' × (is_sealing v' ≡ true)
Leaves v v' d d' (turns.Kicks bits) = (is_kicked v ≡ false) × (d' ≡ d)
Leaves v v' d d' (turns.Again reason) = Unit {0}

same_many : (old new : Keeper) → new ≡ old → HasAsMany old new
same_many old new same = record { pages = ap (λ (k : Keeper). length k.arrays) same; room = ap (λ (k : Keeper). k.room) same }

same_driver : (d d' : Driver) → d' ≡ d → LeavesDriver d d'
same_driver d d' same = record {
  own = ap (λ (x : Driver). x.active.own) same;
  many = same_many d.slots d'.slots (ap (λ (x : Driver). x.slots) same);
}

-- ---- looks

looked : (d d' : Driver) (page : Page) (look : Look) → IsLooked d page look d' → LeavesDriver d d'
looked d d' page looks.Taken is =
    record { own = is.list.own; many = same_many d.slots d'.slots (ap (λ (x : Driver). x.slots) is.others) }
looked d d' page looks.Held is = record {
  own = ap (λ (x : Driver). x.active.own) is;
  many = same_many d.slots d'.slots (ap (λ (x : Driver). x.slots) is);
}
looked d d' page looks.Young is = record {
  own = ap (λ (x : Driver). x.active.own) is;
  many = same_many d.slots d'.slots (ap (λ (x : Driver). x.slots) is);
}
looked d d' page looks.NoRoom is = record {
  own = ap (λ (x : Driver). x.active.own) is;
  many = same_many d.slots d'.slots (ap (λ (x : Driver). x.slots) is);
}

looked_aside : (d d' : Driver) (page : Page) (look : Look) → IsLookedAside d page look d' → LeavesDriver d d'
looked_aside d d' page looks.Taken is = record {
  own = ap (λ (x : Driver). x.active.own) is;
  many = same_many d.slots d'.slots (ap (λ (x : Driver). x.slots) is);
}
looked_aside d d' page looks.Held is = same_driver d d' is
looked_aside d d' page looks.Young is = same_driver d d' is
looked_aside d d' page looks.NoRoom is = same_driver d d' is

-- ---- tries

tried_many : (old new : Keeper) (slot : VaSlot) (keeps : Bool) → SlotsAfter old slot keeps new → HasAsMany old new
tried_many old new slot true is = record { pages = is.pages.pages; room = is.pages.room }
tried_many old new slot false is = record { pages = is.pages.pages; room = is.pages.room }

-- behind a start the bytes of its page are waited for
sealing_tries : (v : PassView) (next : ℕ) (form : Form) (one : Taken) (f : Frame) (slot : SlotAt) (answer : Answer) → v.aside ≡ asides.None
    → v.stage ≡ stages.Tries next form → slice_get v.taken next ≡ Some one
    → is_sealing (instructed (Did (EwbStart f slot) answer) v) ≡ true
sealing_tries v next form one f slot answer alone is found = rw (alone, is) (ap is_some found)

sealing_aside : (v : PassView) (one : Taken) (f : Frame) (slot : SlotAt) (answer : Answer) → v.aside ≡ asides.ToGo one
    → is_sealing (instructed (Did (EwbStart f slot) answer) v) ≡ true
sealing_aside v one f slot answer is = rw is refl

module _ (v v' : PassView) (d d' : Driver) (m m' : Parts) (turn : PassTurn) where
  abbrev Left : PassTurn → Type 0
  Left to = Leaves v v' d d' to

  told : (to : PassTurn) → turn ≡ to → Left to → Left turn
  told to is = subst Left (sym is)

  waited : (reason : Why) → turn ≡ turns.Again reason → Left turn
  waited reason is = told (turns.Again reason) is tt

  -- one entry, which may start a write-out
  by_event : (e : Entry) (ev : Event) → LeavesDriver d d'
      → ((f : Frame) (slot : SlotAt) (answer : Answer) → ev ≡ Did (EwbStart f slot) answer → is_sealing v' ≡ true) → Left (turn_of e ev)
  by_event e (Did (EwbStart f slot) answer) both seals = (both, seals f slot answer refl)
  by_event e (Refused action (why.NotTracked epoch older)) both seals = both
  by_event e (Refused action (why.SlotOccupied version)) both seals = both
  by_event e (Refused action refusal) both seals = both
  by_event e ev both seals = both

  tried : (one : Taken)
      → ((f : Frame) (slot : SlotAt) (answer : Answer) → is_sealing (instructed (Did (EwbStart f slot) answer) v) ≡ true)
      → IsTryTurn one v d (state_of m) turn v' d' (state_of m') → Left turn
  tried one seals (inl k) =
      told (turn_of k.entry k.entry.event) k.told
      (by_event k.entry k.entry.event
      (record {
        own = ap (λ (x : Driver). x.active.own) k.tried.others;
        many = tried_many d.slots d'.slots k.tried.slot _ k.tried.slots;
      })
      (λ f slot answer is. ap is_sealing (k.to ∙ ap (λ ev. instructed ev v) is) ∙ seals f slot answer))
  tried one seals (inr none) = waited waits.NoSlot none.1

  third : (n : ℕ) (one : Taken)
      → ((f : Frame) (slot : SlotAt) (answer : Answer) → is_sealing (instructed (Did (EwbStart f slot) answer) v) ≡ true)
      → ThirdSays n one v d (state_of m) turn v' d' (state_of m') → Left turn
  third zero one seals k = tried one seals k
  third (suc n) one seals k = waited (waits.Older one.page.enclave (suc n)) k

  -- an instruction that starts none
  made : (action : Action) → ((f : Frame) (slot : SlotAt) → action ≡ EwbStart f slot → ⊥) → d' ≡ d
      → IsMadeTurn action v (state_of m) turn v' (state_of m') → Left turn
  made action calm same k =
      told (turn_of k.entry k.entry.event) k.told
      (by_event k.entry k.entry.event (same_driver d d' same)
      (λ f slot answer is. absurd (none f slot answer is
      (step_entry (state_of m) (state_of m') actors.Reclaimer action k.entry k.step))))
    where
      same_action : (a b : Action) (x y : Answer) → Did a x ≡ Did b y → a ≡ b
      same_action a b x y is = cc

      none : (f : Frame) (slot : SlotAt) (answer : Answer) → k.entry.event ≡ Did (EwbStart f slot) answer
          → IsEntryOf actors.Reclaimer action k.entry → ⊥
      none f slot answer is (inl (given, entry)) =
          calm f slot (same_action action (EwbStart f slot) given answer (sym (ap (λ (x : Entry). x.event) entry) ∙ is))
      none f slot answer is (inr (refusal, entry)) = let both = sym (ap (λ (x : Entry). x.event) entry) ∙ is in cc

  scanned : IsScanned v d turn v' d' → Left turn
  scanned (inl k) = told (turns.One _) k.told (looked d d' k.page k.look k.tables)
  scanned (inr none) = waited waits.AllHeld none.1

  formed : (next : ℕ) (form : Form) (one : Taken) → v.aside ≡ asides.None → v.stage ≡ stages.Tries next form
      → slice_get v.taken next ≡ Some one → FormSays form one v d m turn v' d' m' → Left turn
  formed next forms.First one alone is found k =
      tried one (λ f slot answer. sealing_tries v next forms.First one f slot answer alone is found) k
  formed next forms.Second one alone is found k =
      tried one (λ f slot answer. sealing_tries v next forms.Second one f slot answer alone is found) k
  formed next forms.Track one alone is found k = made (Track one.page.enclave) (λ f slot same. cc) k.1 k.0
  formed next (forms.Kick epoch false) one alone is found k =
      told (turns.Kicks _) k.0.told (ap is_kicked_stage is, k.1.0)
  formed next (forms.Kick epoch true) one alone is found k =
      third _ one (λ f slot answer. sealing_tries v next (forms.Kick epoch true) one f slot answer alone is found) k
  formed next (forms.Third epoch) one alone is found k =
      third _ one (λ f slot answer. sealing_tries v next (forms.Third epoch) one f slot answer alone is found) k
  formed next (forms.Kicks epoch place) one alone is found k = absurd k
  formed next forms.Sealing one alone is found k = absurd k

  with_one : (o : Option Taken) (says : Taken → Type 0) → ((one : Taken) → o ≡ Some one → says one → Left turn)
      → WithPage o (turn ≡ turns.Again waits.AllHeld) says → Left turn
  with_one None says f k = waited waits.AllHeld k
  with_one (Some one) says f k = f one refl k

  staged : v.aside ≡ asides.None → (stage : Stage) → v.stage ≡ stage → StageSays stage v d m turn v' d' m' → Left turn
  staged alone (stages.Idle false) is k = waited _ k
  staged alone (stages.Idle true) is (inl k) = scanned k.1
  staged alone (stages.Idle true) is (inr k) = waited waits.AllHeld k.1
  staged alone (stages.Scan left) is k = scanned k
  staged alone (stages.Block next) is k =
      with_one (taken_at v next) (λ one. IsMadeTurn (Block one.frame) v (state_of m) turn v' (state_of m') × (d' ≡ d))
      (λ one found says. made (Block one.frame) (λ f slot same. cc) says.1 says.0) k
  staged alone (stages.Tries next form) is k =
      with_one (taken_at v next) (λ one. FormSays form one v d m turn v' d' m')
      (λ one found says. formed next form one alone is found says) k

  due_left : v.aside ≡ asides.None → (o : Option Page) → DueSays o v d m turn v' d' m' → Left turn
  due_left alone (Some page) k = told (turns.One _) k.told (looked_aside d d' page k.look k.tables)
  due_left alone None k = staged alone v.stage refl k

  pub turn_leaves : TurnSays v d m turn v' d' m' → Left turn
  turn_leaves k = by_aside v.aside refl k
    where
      by_aside : (x : Aside) → v.aside ≡ x → AsideSays x v d m turn v' d' m' → Left turn
      by_aside (asides.ToGo one) is says =
          told (turn_of says.0.entry says.0.entry.event) says.0.told
          (by_event says.0.entry says.0.entry.event (same_driver d d' says.1)
          (λ f slot answer at.
          ap is_sealing (says.0.to ∙ ap (λ ev. instructed ev v) at) ∙ sealing_aside v one f slot answer is))
      by_aside (asides.Going one) is says = absurd says
      by_aside asides.None is says = due_left is (due_in d (state_of m) v.behind) says

-- ---- what a turn says of what is due

-- an entry of the reclaimer, which enters nothing and loses no page
pub record IsTurnEntry (e : Entry) : Type 0 where
  pub actor : e.actor ≡ actors.Reclaimer
  pub enters : EntersApart e.event
  pub back : is_bus e.event ≡ false

-- kicks are of those who are due to be kicked
pub record AreKicks (due : Due) (bits : ℕ) : Type 0 where
  pub cpus : List ℕ
  pub due_is : due ≡ KicksAll cpus
  pub same : bits ≡ bits_of cpus

-- no slot is left for a TCS or REG page that is tried
pub record IsSlotless (slots : Keeper) (due : Due) (reason : Why) : Type 0 where
  pub page : Page
  pub frame : ℕ
  pub due_is : due ≡ TriesOut page frame
  pub own : is_own_page page ≡ true
  pub out : AllOut slots
  pub same : reason ≡ waits.NoSlot

-- one entry that starts nothing, or the start of a write-out
abbrev pub TellsDue : Keeper → Due → PassTurn → Type 0
TellsDue slots due (turns.One e) = IsTurnEntry e × (frame_started (Some e.event) ≡ None)
TellsDue slots due (turns.Spent e) = IsTurnEntry e × (frame_started (Some e.event) ≡ None)
TellsDue slots due (turns.Seal e) = IsTurnEntry e
TellsDue slots due (turns.Kicks bits) = AreKicks due bits
TellsDue slots due (turns.Again reason) = (due ≡ Waits reason) ⊎ IsSlotless slots due reason

module _ (made : Making) (j : JobView) (past : List Entry) (slots : Keeper) (turn : PassTurn) where
  said : (due : Due) (to : PassTurn) → turn ≡ to → TellsDue slots due to → TellsDue slots due turn
  said due to is = subst (TellsDue slots due) (sym is)

  track_own : (due : Due) (enclave : ℕ) → TellsDue slots due (track_turn made.first_epoch past enclave)
  track_own due enclave = by_last (epoch made.first_epoch past enclave == LAST_EPOCH)
    where
      by_last : (b : Bool) → TellsDue slots due (if b then turns.Spent (by_reclaimer (Refused (Track enclave) why.EpochSpent))
          else turns.One (by_reclaimer (Did (Track enclave) answers.Plain)))
      by_last true = (record { actor = refl; enters = tt; back = refl }, refl)
      by_last false = (record { actor = refl; enters = tt; back = refl }, refl)

  start_own : (due : Due) (f : ℕ) (at : SlotAt) → TellsDue slots due (start_turn made past f at)
  start_own due f at = by_last (next_version made.first_version past == 2 ^ 64)
    where
      by_last : (b : Bool) → TellsDue slots due (if b
          then turns.Spent (by_reclaimer (Refused (EwbStart (frame_at f) at) why.VersionSpent))
          else turns.Seal (by_reclaimer (Did (EwbStart (frame_at f) at) (answers.Version (next_version made.first_version past)))))
      by_last true = (record { actor = refl; enters = tt; back = refl }, refl)
      by_last false = record { actor = refl; enters = tt; back = refl }

  try_own : (due : Due) (f : ℕ) (at : SlotAt) (version : ℕ) → TellsDue slots due (try_turn made past f at version)
  try_own due f at version = by_drain (is_drained past f) (version == 0)
    where
      by_drain : (b none : Bool) → TellsDue slots due (if b
          then (if none then start_turn made past f at
          else turns.One (by_reclaimer (Refused (EwbStart (frame_at f) at) (why.SlotOccupied version))))
          else turns.One (by_reclaimer (Refused (EwbStart (frame_at f) at)
          (why.NotTracked (epoch_in made.first_epoch past f) (kept_back past f)))))
      by_drain true true = start_own due f at
      by_drain true false = (record { actor = refl; enters = tt; back = refl }, refl)
      by_drain false none = (record { actor = refl; enters = tt; back = refl }, refl)

  pub turn_tells : (due : Due) → IsTurn made j past slots due turn → TellsDue slots due turn
  turn_tells (Waits reason) k = said (Waits reason) _ k (inl refl)
  turn_tells (LooksAt page held young) k = said (LooksAt page held young) _ k.told (record { actor = refl; enters = tt; back = refl }, refl)
  turn_tells (Makes (Block f)) k = said (Makes (Block f)) _ k (record { actor = refl; enters = tt; back = refl }, refl)
  turn_tells (Makes (Track enclave)) k = said (Makes (Track enclave)) _ k (track_own (Makes (Track enclave)) enclave)
  turn_tells (TriesOut g f) k = by_own (is_own_page g) refl k
    where
      by_own : (b : Bool) → is_own_page g ≡ b → IsTryOut made j past slots g f b turn → TellsDue slots (TriesOut g f) turn
      by_own true own (inl t) = said (TriesOut g f) _ t.told (try_own (TriesOut g f) f t.at t.version)
      by_own true own (inr none) = said (TriesOut g f) _ none.1
          (inr (record { page = g; frame = f; due_is = refl; own = own; out = none.0; same = refl }))
      by_own false other t = said (TriesOut g f) _ t.told (start_own (TriesOut g f) f t.at)
  turn_tells (KicksAll ps) k = said (KicksAll ps) _ k (record { cpus = ps; due_is = refl; same = refl })
  turn_tells due k = absurd k
