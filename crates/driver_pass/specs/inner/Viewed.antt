-- How far the reclaimer is, and what this is by the rules.
use Rattle.std.specs.Prelude.{ℕ, ◌+◌, Bool, true, false, List, [], ◌∷◌, Option, Some, None, is_some, drop, length, map, slice_get}
use Rattle.sgx_types.specs.declared.names.Cpu.{Cpu}
use Rattle.sgx_types.specs.declared.names.Page.{Page}
use Rattle.driver_rules.specs.Passes as passes
use Rattle.driver_rules.specs.Passes.{Between, Blocking, Pass, Scan, Tries}
use Rattle.driver_pass.specs.declared.stages.Aside.{Aside}
use Rattle.driver_pass.specs.declared.stages.Aside.TheVariants as asides
use Rattle.driver_pass.specs.declared.stages.Behind.{Behind}
use Rattle.driver_pass.specs.declared.stages.Behind.TheVariants as last
use Rattle.driver_pass.specs.declared.stages.Form.{Form}
use Rattle.driver_pass.specs.declared.stages.Form.TheVariants as forms
use Rattle.driver_pass.specs.declared.stages.Stage.{Stage}
use Rattle.driver_pass.specs.declared.stages.Stage.TheVariants as stages
use Rattle.driver_pass.specs.declared.stages.Taken.{Taken}

-- the pages that the pass took, in their order; the processors that are kicked, within the kicks of a page; how far it is; the page that
-- goes out beside the passes; and what the last entry tells of the page that is due
pub record PassView : Type 0 where
  pub taken : List Taken
  pub kicks : List ℕ
  pub stage : Stage
  pub aside : Aside
  pub behind : Behind

-- before the first entry
abbrev pub new_view : PassView
new_view = record { taken = []; kicks = []; stage = stages.Idle false; aside = asides.None; behind = last.Nothing }

abbrev pub page_of : Taken → Page
page_of t = t.page

abbrev pub pages_in : List Taken → List Page
pages_in taken = map page_of taken

abbrev pub number_of : Cpu → ℕ
number_of cpu = cpu.0

abbrev pub numbers_in : List Cpu → List ℕ
numbers_in cpus = map number_of cpus

-- a page that the pass took, by its place
abbrev pub taken_at : PassView → ℕ → Option Taken
taken_at v place = slice_get v.taken place

-- ---- by the rules

-- how far it is with one page
abbrev pub form_in : List ℕ → Form → passes.Form
form_in kicks forms.First = passes.First
form_in kicks forms.Track = passes.ToTrack
form_in kicks forms.Second = passes.Second
form_in kicks (forms.Kick epoch made) = passes.ToKick
form_in kicks (forms.Kicks epoch next) = passes.Kicks (drop next kicks)
form_in kicks (forms.Third epoch) = passes.Third
form_in kicks forms.Sealing = passes.Sealing

-- the tries of the first of these. No pass has none left
abbrev pub tries_of : List Taken → passes.Form → Pass
tries_of [] form = Blocking [] []
tries_of (t ∷ ts) form = Tries t.page (pages_in ts) form

abbrev pub pass_by : List Taken → List ℕ → Stage → Pass
pass_by taken kicks (stages.Idle works) = Between works
pass_by taken kicks (stages.Scan left) = Scan left (pages_in taken)
pass_by taken kicks (stages.Block next) = Blocking (pages_in (drop next taken)) (pages_in taken)
pass_by taken kicks (stages.Tries next form) = tries_of (drop next taken) (form_in kicks form)

abbrev pub aside_by : Aside → passes.Aside
aside_by asides.None = passes.NoneAside
aside_by (asides.ToGo t) = passes.IsToGo t.page
aside_by (asides.Going t) = passes.IsGoing t.page

-- ---- pages that have not gone out

-- of the pass
abbrev pub waiting_by : List Taken → Stage → List Taken
waiting_by taken (stages.Idle works) = []
waiting_by taken (stages.Tries next form) = drop next taken
waiting_by taken _ = taken

abbrev pub count_aside : Aside → ℕ
count_aside asides.None = 0
count_aside _ = 1

-- how many: for each the store has made room
abbrev pub still_out : PassView → ℕ
still_out v = length (waiting_by v.taken v.stage) + count_aside v.aside

-- ---- what the last turn was

-- the page of the pass whose write-out has started
abbrev pub sealing_at : List Taken → Stage → Option Taken
sealing_at taken (stages.Tries next forms.Sealing) = slice_get taken next
sealing_at taken _ = None

abbrev pub sealing_with : Aside → Option Taken → Option Taken
sealing_with (asides.Going t) other = Some t
sealing_with _ other = other

-- the page whose write-out has started, beside the passes or of the pass
abbrev pub sealing_in : PassView → Option Taken
sealing_in v = sealing_with v.aside (sealing_at v.taken v.stage)

abbrev pub is_sealing : PassView → Bool
is_sealing v = is_some (sealing_in v)

-- the turn of kicks was made
abbrev pub is_kicked_stage : Stage → Bool
is_kicked_stage (stages.Tries next (forms.Kick epoch made)) = made
is_kicked_stage _ = false

abbrev pub is_kicked : PassView → Bool
is_kicked v = is_kicked_stage v.stage

-- some of a page's kicks were made, and not all
abbrev pub is_amid_stage : Stage → Bool
is_amid_stage (stages.Tries next (forms.Kicks epoch place)) = true
is_amid_stage _ = false

abbrev pub is_amid : PassView → Bool
is_amid v = is_amid_stage v.stage
