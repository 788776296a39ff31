-- What one turn of the reclaimer does.
use Rattle.std.specs.Prelude.{ℕ, zero, suc, ◌≡◌, ◌⊎◌, true, false, [], Option, Some, None, count_by, length}
use Rattle.epcm_entry.specs.inner.Epc.{is_free_frame}
use Rattle.sgx_rules.specs.declared.entries.Action.{Action}
use Rattle.sgx_rules.specs.declared.entries.Action.TheVariants as actions
use Rattle.sgx_rules.specs.declared.entries.Entry.{Entry}
use Rattle.sgx_rules.specs.declared.entries.Event.{Event}
use Rattle.sgx_rules.specs.declared.entries.Event.TheVariants.{Age, Did, Refused}
use Rattle.sgx_rules.specs.declared.entries.Look.{Look}
use Rattle.sgx_rules.specs.declared.refusals.Refusal.TheVariants as why
use Rattle.sgx_types.specs.declared.names.Actor.TheVariants as actors
use Rattle.sgx_types.specs.declared.names.Page.{Page}
use Rattle.driver_list.specs.inner.Active.{IsActive, are_held}
use Rattle.driver_list.specs.inner.Holds.{is_held}
use Rattle.driver_list.specs.inner.Listing.{head_of, is_young}
use Rattle.driver_slots.specs.inner.Keeper.{AllOut}
use Rattle.machine_laws.specs.inner.State.{State}
use Rattle.machine_laws.specs.inner.Steps.{IsStep}
use Rattle.sgx_machine.specs.inner.Parts.{Parts, state_of}
use Rattle.driver_rules.specs.Dues.{is_look}
use Rattle.driver_rules.specs.declared.waits.Why.TheVariants as waits
use Rattle.driver_tables.specs.declared.driver.Driver.{Driver}
use Rattle.driver_tables.specs.inner.Moves.{IsLooked, IsLookedAside}
use Rattle.driver_pass.specs.declared.stages.Aside.{Aside}
use Rattle.driver_pass.specs.declared.stages.Aside.TheVariants as asides
use Rattle.driver_pass.specs.declared.stages.Form.{Form}
use Rattle.driver_pass.specs.declared.stages.Form.TheVariants as forms
use Rattle.driver_pass.specs.declared.stages.Stage.{Stage}
use Rattle.driver_pass.specs.declared.stages.Stage.TheVariants as stages
use Rattle.driver_pass.specs.declared.stages.Taken.{Taken}
use Rattle.driver_pass.specs.inner.Dues.{due_in}
use Rattle.driver_pass.specs.inner.Keeping.{keepers_by}
use Rattle.driver_pass.specs.inner.Noted.{all_kicked, instructed, looked}
use Rattle.driver_pass.specs.inner.Viewed.{PassView, taken_at}
use Rattle.driver_reclaim.specs.declared.turns.PassTurn.{PassTurn}
use Rattle.driver_reclaim.specs.declared.turns.PassTurn.TheVariants as turns
use Rattle.driver_reclaim.specs.inner.Answers.{bits_of, by_reclaimer}
use Rattle.driver_reclaim.specs.inner.Tried.{IsTriedStart, IsTried}

-- ---- instructions

-- a turn by its entry: it started a write-out, or an epoch or a version was used up, or else the pass goes on
abbrev pub turn_of : Entry → Event → PassTurn
turn_of e (Did (actions.EwbStart f slot) answer) = turns.Seal e
turn_of e (Refused action (why.NotTracked epoch older)) = turns.One e
turn_of e (Refused action (why.SlotOccupied version)) = turns.One e
turn_of e (Refused action refusal) = turns.Spent e
turn_of e event = turns.One e

-- the pass goes on with it
pub record IsMadeTurn (action : Action) (v : PassView) (s : State) (turn : PassTurn) (v' : PassView) (t : State) : Type 0 where
  pub entry : Entry
  pub step : IsStep s actors.Reclaimer action entry t
  pub told : turn ≡ turn_of entry entry.event
  pub to : v' ≡ instructed entry.event v

pub record IsTriedTurn (one : Taken) (v : PassView) (old : Driver) (s : State) (turn : PassTurn) (v' : PassView) (new : Driver)
    (t : State) : Type 0 where
  pub entry : Entry
  pub tried : IsTried s old one.frame entry new t
  pub told : turn ≡ turn_of entry entry.event
  pub to : v' ≡ instructed entry.event v

-- .. where a slot is left
abbrev pub IsTryTurn : Taken → PassView → Driver → State → PassTurn → PassView → Driver → State → Type 0
IsTryTurn one v old s turn v' new t = IsTriedTurn one v old s turn v' new t ⊎ (AllOut old.slots × (turn ≡ turns.Again waits.NoSlot))

pub record IsAsideTurn (one : Taken) (v : PassView) (d : Driver) (s : State) (turn : PassTurn) (v' : PassView) (t : State) : Type 0 where
  pub entry : Entry
  pub started : IsTriedStart s d one entry t
  pub told : turn ≡ turn_of entry entry.event
  pub to : v' ≡ instructed entry.event v

-- ---- looks

-- at the head of the list
pub record IsHeadLook (v : PassView) (old : Driver) (turn : PassTurn) (v' : PassView) (new : Driver) : Type 0 where
  pub page : Page
  pub sound : IsActive old.active
  pub head : head_of old.active.pages ≡ Some page
  pub look : Look
  pub right : is_look (is_held old.active.own page) (is_young old.active.pages page) look ≡ true
  pub tables : IsLooked old page look new
  pub told : turn ≡ turns.One (by_reclaimer (Age page look))
  pub to : v' ≡ looked old page look v

abbrev pub IsScanned : PassView → Driver → PassTurn → PassView → Driver → Type 0
IsScanned v old turn v' new = IsHeadLook v old turn v' new ⊎ ((old.active.pages ≡ []) × (turn ≡ turns.Again waits.AllHeld))

-- the first look of a pass, where some page of the list is not held
abbrev pub IsBegun : PassView → Driver → PassTurn → PassView → Driver → Type 0
IsBegun v old turn v' new =
    ((are_held old.active ≡ false) × IsScanned v old turn v' new) ⊎ ((are_held old.active ≡ true) × (turn ≡ turns.Again waits.AllHeld))

-- at a page that is due besides
pub record IsDueLook (page : Page) (v : PassView) (old : Driver) (turn : PassTurn) (v' : PassView) (new : Driver) : Type 0 where
  pub look : Look
  pub right : is_look false false look ≡ true
  pub tables : IsLookedAside old page look new
  pub told : turn ≡ turns.One (by_reclaimer (Age page look))
  pub to : v' ≡ looked old page look v

-- ---- kicks

-- one bit for each processor that keeps the page back
pub record IsKickTurn (enclave epoch : ℕ) (v : PassView) (m : Parts) (turn : PassTurn) (v' : PassView) : Type 0 where
  pub told : turn ≡ turns.Kicks (bits_of (keepers_by m enclave epoch))
  pub to : v' ≡ all_kicked (length (keepers_by m enclave epoch)) v

-- the last try waits for those who keep the page back
abbrev pub ThirdSays : ℕ → Taken → PassView → Driver → State → PassTurn → PassView → Driver → State → Type 0
ThirdSays zero one v old s turn v' new t = IsTryTurn one v old s turn v' new t
ThirdSays (suc n) one v old s turn v' new t = turn ≡ turns.Again (waits.Older one.page.enclave (suc n))

abbrev pub IsThirdTurn : ℕ → Taken → PassView → Driver → Parts → PassTurn → PassView → Driver → Parts → Type 0
IsThirdTurn epoch one v old m turn v' new m' =
    ThirdSays (length (keepers_by m one.page.enclave epoch)) one v old (state_of m) turn v' new (state_of m')

-- ---- by how far it is

-- a form in which the reclaimer chooses what comes next
abbrev pub IsResting : Form → Type 0
IsResting (forms.Kicks epoch next) = ⊥
IsResting forms.Sealing = ⊥
IsResting _ = Unit {0}

abbrev pub FormSays : Form → Taken → PassView → Driver → Parts → PassTurn → PassView → Driver → Parts → Type 0
FormSays forms.First one v old m turn v' new m' = IsTryTurn one v old (state_of m) turn v' new (state_of m')
FormSays forms.Track one v old m turn v' new m' =
    IsMadeTurn (actions.Track one.page.enclave) v (state_of m) turn v' (state_of m') × (new ≡ old)
FormSays forms.Second one v old m turn v' new m' = IsTryTurn one v old (state_of m) turn v' new (state_of m')
FormSays (forms.Kick epoch false) one v old m turn v' new m' =
    IsKickTurn one.page.enclave epoch v m turn v' × ((new ≡ old) × (m' ≡ m))
FormSays (forms.Kick epoch true) one v old m turn v' new m' = IsThirdTurn epoch one v old m turn v' new m'
FormSays (forms.Third epoch) one v old m turn v' new m' = IsThirdTurn epoch one v old m turn v' new m'
FormSays _ one v old m turn v' new m' = ⊥

-- by whether the pass has such a page; no pass that stands for some entries lacks it
abbrev pub WithPage : Option Taken → Type 0 → (Taken → Type 0) → Type 0
WithPage None none says = none
WithPage (Some one) none says = says one

abbrev pub StageSays : Stage → PassView → Driver → Parts → PassTurn → PassView → Driver → Parts → Type 0
StageSays (stages.Idle false) v old m turn v' new m' = turn ≡ turns.Again (waits.Enough (count_by is_free_frame m.epc))
StageSays (stages.Idle true) v old m turn v' new m' = IsBegun v old turn v' new
StageSays (stages.Scan left) v old m turn v' new m' = IsScanned v old turn v' new
StageSays (stages.Block next) v old m turn v' new m' = WithPage (taken_at v next) (turn ≡ turns.Again waits.AllHeld)
    (λ one. IsMadeTurn (actions.Block one.frame) v (state_of m) turn v' (state_of m') × (new ≡ old))
StageSays (stages.Tries next form) v old m turn v' new m' = WithPage (taken_at v next) (turn ≡ turns.Again waits.AllHeld)
    (λ one. FormSays form one v old m turn v' new m')

-- a page that is due comes before what the pass gives
abbrev pub DueSays : Option Page → PassView → Driver → Parts → PassTurn → PassView → Driver → Parts → Type 0
DueSays None v old m turn v' new m' = StageSays v.stage v old m turn v' new m'
DueSays (Some page) v old m turn v' new m' = IsDueLook page v old turn v' new

abbrev pub AsideSays : Aside → PassView → Driver → Parts → PassTurn → PassView → Driver → Parts → Type 0
AsideSays asides.None v old m turn v' new m' = DueSays (due_in old (state_of m) v.behind) v old m turn v' new m'
AsideSays (asides.ToGo one) v old m turn v' new m' = IsAsideTurn one v old (state_of m) turn v' (state_of m') × (new ≡ old)
AsideSays (asides.Going one) v old m turn v' new m' = ⊥

abbrev pub TurnSays : PassView → Driver → Parts → PassTurn → PassView → Driver → Parts → Type 0
TurnSays v old m turn v' new m' = AsideSays v.aside v old m turn v' new m'
