-- How many slots are out: as many as pages have one, as long as each entry is the driver's.
use Rattle.std.specs.Prelude.{ℕ, ◌≡◌, ◌+◌, ◌≤◌, Bool, true, false, if◌then◌else◌, List, [], ◌∷◌, count_by}
use Rattle.std.specs.Prelude.{is_some, length, take, Option, Some, None}
use Rattle.sgx_rules.specs.declared.entries.Action.TheVariants.{Add, Eld, EwbStart}
use Rattle.sgx_rules.specs.declared.entries.Entry.{Entry}
use Rattle.sgx_rules.specs.declared.entries.Event.{Event}
use Rattle.sgx_rules.specs.declared.entries.Event.TheVariants.{Did, Refused}
use Rattle.sgx_rules.specs.declared.entries.Answer.TheVariants.{Moved}
use Rattle.sgx_types.specs.declared.names.Page.{Page}
use Rattle.sgx_rules.specs.Frames.{added, Content, content, page_there, vas_made}
use Rattle.sgx_types.specs.Pages.{is_own_page, page_at}
use Rattle.driver_slots.specs.inner.Keeper.{count_out, Keeper}
use Rattle.job_grammar.specs.Jobs.{JobView}
use Rattle.script_rules.specs.declared.steps.BuildStep.{BuildStep}
use Rattle.script_rules.specs.Script.{build_of, built}
use Rattle.driver_rules.specs.inner.Slotted.{occupied}
use Rattle.driver_laws.specs.inner.Keeps.{is_va_step}
use Rattle.driver_laws.specs.inner.Sound.{slot_of, times}
use Rattle.sgx_rules.specs.declared.refusals.Refusal.TheVariants as why
use Rattle.script_rules.specs.declared.steps.BuildStep.TheVariants as builds

abbrev pub with_added : Event → List Page → List Page
with_added (Did (Add enclave number f kind perm init) answer) before = page_at enclave number ∷ before
with_added _ before = before

-- the pages that were added, the last first
abbrev pub pages_added : List Entry → List Page
pages_added [] = []
pages_added (e ∷ past) = with_added e.event (pages_added past)

-- a page has a slot: it is outside, or its write-out has started
abbrev pub has_slot : List Entry → Page → Bool
has_slot past g = is_some (slot_of past g)

pub record CountsSlots (keeper : Keeper) (past : List Entry) : Type 0 where
  -- each page was added once
  pub once : (g : Page) → times (pages_added past) g ≡ (if is_some (added past g) then 1 else 0)
  -- as many slots are out as of these have one, and as tries found in use
  pub out : count_out keeper ≡ count_by (has_slot past) (pages_added past) + occupied past

-- a step of the build adds a page
abbrev pub is_add_step : BuildStep → Bool
is_add_step (builds.Add enclave number kind perm init) = true
is_add_step _ = false

-- no more pages were added, and no more version array pages made, than the builder's steps till now add and make
pub record AddsAreBuilt (j : JobView) (past : List Entry) : Type 0 where
  pub adds : length (pages_added past) ≤ count_by is_add_step (take (built past) (build_of j))
  pub arrays : vas_made past ≤ count_by is_va_step (take (built past) (build_of j))

-- a write-out takes a slot, the end of a load gives one back, and every other entry leaves as many out
abbrev pub is_own_held : Option Page → Bool
is_own_held None = false
is_own_held (Some page) = is_own_page page

-- a frame holds a TCS or REG page
abbrev pub is_own_there : Content → Bool
is_own_there c = is_own_held (page_there c)

abbrev pub CountMoves : List Entry → Event → ℕ → ℕ → Type 0
CountMoves past (Did (EwbStart f at) answer) old new = new ≡ old + (if is_own_there (content past f.0) then 1 else 0)
CountMoves past (Did (Eld f) (Moved page version tag)) old new = new + (if is_own_page page then 1 else 0) ≡ old
CountMoves past (Refused (EwbStart f at) (why.SlotOccupied version)) old new = new ≡ old + 1
CountMoves past _ old new = new ≡ old
