-- What a pass stands for.
use Rattle.std.specs.Prelude.{ℕ, ◌≡◌, ◌+◌, ◌≤◌, false, List, [], ◌∷◌, length, Option, Some, None}
use Rattle.sgx_rules.specs.declared.entries.Action.TheVariants as actions
use Rattle.sgx_rules.specs.declared.refusals.Refusal.TheVariants as why
use Rattle.sgx_rules.specs.declared.entries.Entry.{Entry}
use Rattle.sgx_rules.specs.declared.entries.Event.{Event}
use Rattle.sgx_rules.specs.declared.entries.Event.TheVariants.{Age, Refused}
use Rattle.sgx_types.specs.declared.names.Actor.TheVariants as actors
use Rattle.sgx_rules.specs.Epochs.{epoch, epoch_in}
use Rattle.job_grammar.specs.Jobs.{JobView}
use Rattle.driver_rules.specs.Passes.{aside, Pass, pass}
use Rattle.driver_rules.specs.Places.{Leaving, place}
use Rattle.driver_rules.specs.Stops.{last_event}
use Rattle.driver_laws.specs.inner.Sound.{is_absent}
use Rattle.driver_pass.specs.declared.stages.Aside.{Aside}
use Rattle.driver_pass.specs.declared.stages.Aside.TheVariants as asides
use Rattle.driver_pass.specs.declared.stages.Behind.{Behind}
use Rattle.driver_pass.specs.declared.stages.Behind.TheVariants as last
use Rattle.driver_pass.specs.declared.stages.Form.{Form}
use Rattle.driver_pass.specs.declared.stages.Form.TheVariants as forms
use Rattle.driver_pass.specs.declared.stages.Stage.{Stage}
use Rattle.driver_pass.specs.declared.stages.Stage.TheVariants as stages
use Rattle.driver_pass.specs.declared.stages.Taken.{Taken}
use Rattle.driver_pass.specs.inner.Noted.{behind_instructed, behind_looked}
use Rattle.driver_pass.specs.inner.Viewed.{aside_by, pass_by, PassView, waiting_by}

-- each page leaves the frame that stands beside it
abbrev pub AreInFrames : List Entry → List Taken → Type 0
AreInFrames past [] = Unit {0}
AreInFrames past (t ∷ ts) = (place past t.page ≡ Leaving t.frame.0) × AreInFrames past ts

-- the epoch that a second refusal told is the enclave's still
abbrev pub IsForm : ℕ → List Entry → Form → List Taken → Type 0
IsForm first past (forms.Kick told made) (t ∷ ts) = told ≡ epoch first past t.page.enclave
IsForm first past (forms.Kicks told next) (t ∷ ts) = told ≡ epoch first past t.page.enclave
IsForm first past (forms.Third told) (t ∷ ts) = told ≡ epoch first past t.page.enclave
IsForm first past _ _ = Unit {0}

-- the epoch that a form knows
abbrev pub epoch_told : Form → Option ℕ
epoch_told (forms.Kick told made) = Some told
epoch_told (forms.Kicks told next) = Some told
epoch_told (forms.Third told) = Some told
epoch_told _ = None

-- a scan takes no more pages than there is room for
abbrev pub IsStage : ℕ → List Entry → List Taken → Stage → Type 0
IsStage first past taken (stages.Scan left) = length taken + left ≤ 64
IsStage first past taken (stages.Tries next form) = IsForm first past form (waiting_by taken (stages.Tries next form))
IsStage first past taken _ = Unit {0}

-- the page beside the passes leaves its frame
abbrev pub IsAside : List Entry → Aside → Type 0
IsAside past asides.None = Unit {0}
IsAside past (asides.ToGo t) = place past t.page ≡ Leaving t.frame.0
IsAside past (asides.Going t) = place past t.page ≡ Leaving t.frame.0

-- what an event of the reclaimer tells of the page that is due
abbrev pub behind_of : Option Event → Behind
behind_of None = last.Nothing
behind_of (Some (Age page look)) = behind_looked page look
behind_of (Some event) = behind_instructed event

-- a page that has gone out was made
abbrev pub IsOut : List Entry → Behind → Type 0
IsOut past (last.Out page) = is_absent (place past page) ≡ false
IsOut past _ = Unit {0}

pub record StandsFor (first : ℕ) (past : List Entry) (v : PassView) (at : Pass) : Type 0 where
  pub same : at ≡ pass_by v.taken v.kicks v.stage
  -- the pages that have not gone out are in their frames
  pub frames : AreInFrames past (waiting_by v.taken v.stage)
  pub stage : IsStage first past v.taken v.stage
  -- the page beside the passes is the one that was taken and has not gone out
  pub aside : aside past ≡ aside_by v.aside
  pub leaves : IsAside past v.aside
  -- and the last entry is kept as far as it tells which page is due
  pub behind : v.behind ≡ behind_of (last_event past actors.Reclaimer)
  pub out : IsOut past v.behind

-- what the refusal of a try tells of the enclave's epoch is so
abbrev pub TellsEpoch : ℕ → List Entry → Event → Type 0
TellsEpoch first past (Refused (actions.EwbStart f slot) (why.NotTracked told older)) = told ≡ epoch_in first past f.0
TellsEpoch first past _ = Unit {0}

-- the value stands for the pass behind these entries; epochs count from the first one
abbrev pub StandsAt : ℕ → JobView → List Entry → PassView → Type 0
StandsAt first j past v = StandsFor first past v (pass j past)
