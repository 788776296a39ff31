-- Which pages are held: those that the reclaimer passes over since some actor is about to use them.
use Rattle.std.specs.Prelude.{ℕ, zero, suc, ◌||◌, Bool, false, if◌then◌else◌, List, [], ◌∷◌, ◌++◌, Option, Some, None}
use Rattle.std.specs.Prelude.{length, slice_get}
use Rattle.std.specs.List.{list_any}
use Rattle.std.specs.Option.{option_to_list}
use Rattle.sgx_rules.specs.declared.entries.Entry.{Entry}
use Rattle.sgx_rules.specs.declared.entries.Action.{Action}
use Rattle.sgx_rules.specs.declared.entries.Action.TheVariants.{Aex, EldStart, Fill, Resume}
use Rattle.sgx_types.specs.declared.names.Page.{Page}
use Rattle.sgx_rules.specs.Frames.{Content, content, page_of}
use Rattle.sgx_types.specs.Pages.{is_own_page, is_va_page, page_at, same_page}
use Rattle.sgx_rules.specs.Processors.{is_by, Stay, stay}
use Rattle.job_grammar.specs.Jobs.{JobView}
use Rattle.script_rules.specs.declared.steps.BuildStep.{BuildStep}
use Rattle.script_rules.specs.Script.{action_of, build_of, built, is_reply_of}
use Rattle.driver_rules.specs.Needs.{access_page, listed, needs, next_op}
use Rattle.driver_rules.specs.Places.{is_here, place}
use Rattle.sgx_rules.specs.declared.entries.Cause.TheVariants as causes
use Rattle.script_rules.specs.declared.steps.BuildStep.TheVariants as builds

abbrev pub is_among : List Page → Page → Bool
is_among pages g = list_any (λ h. same_page h g) pages

abbrev pub front_to : Page → List Page → List Page
front_to g [] = []
front_to g (h ∷ hs) = if same_page h g then h ∷ [] else h ∷ front_to g hs

-- a page with those before it in an order of needs; alone where it is none of them
abbrev pub up_to : Page → List Page → List Page
up_to g pages = if is_among pages g then front_to g pages else g ∷ []

-- those before the first that is not here
abbrev pub those_here : List Entry → List Page → List Page
those_here past [] = []
those_here past (h ∷ hs) = if is_here (place past h) then h ∷ those_here past hs else []

-- a page that is brought back with those that are needed before it. Before a SECS or a version array page, which is brought back for a
-- page that is needed, these are the ones before that page. No SECS is held
abbrev pub brought_with : List Entry → Page → List Page → List Page
brought_with past g pages =
    if is_own_page g then up_to g pages else those_here past pages ++ (if is_va_page g then g ∷ [] else [])

abbrev pub pages_there : Content → List Page
pages_there c = option_to_list (page_of c)

abbrev pub page_of_stay : Option Stay → ℕ → List Page
page_of_stay None number = []
page_of_stay (Some s) number = page_at s.seat.enclave number ∷ []

abbrev pub access_of_stay : JobView → List Entry → ℕ → Option Stay → List Page
access_of_stay j past p None = []
access_of_stay j past p (Some s) = listed (access_page s.seat.enclave (next_op j past p))

-- the pages that a processor begins to hold by an instruction: the page whose translation it takes, the page for which it left,
-- a page that it brings back with those that it needs before it, and the TCS page and the state save page by which it resumes
abbrev pub holds_by : JobView → List Entry → ℕ → Option Action → List Page
holds_by j past p (Some (Fill number f)) = page_of_stay (stay past p) number
holds_by j past p (Some (Aex causes.Fault)) = access_of_stay j past p (stay past p)
holds_by j past p (Some (EldStart f page slot)) = brought_with past page (needs j past p)
holds_by j past p (Some (Resume enclave tcs tf sf)) = page_at enclave tcs ∷ pages_there (content past sf.0)
holds_by j past p _ = []

abbrev pub holds_after : JobView → List Entry → Entry → ℕ → List Page → List Page
holds_after j past e p before = if is_reply_of past e p then [] else before ++ holds_by j past p (action_of e.event)

-- the pages that a processor holds since its last reply
abbrev pub holds : JobView → List Entry → ℕ → List Page
holds j [] p = []
holds j (e ∷ past) p = if is_by p e.actor then holds_after j past e p (holds j past p) else holds j past p

abbrev pub page_extended : Option BuildStep → Option Page
page_extended (Some (builds.Extend enclave number chunk)) = Some (page_at enclave number)
page_extended _ = None

-- the page that the builder measures next: a page that is measured is held from its add to its sixteenth extend
abbrev pub builder_holds : JobView → List Entry → Option Page
builder_holds j past = page_extended (slice_get (build_of j) (built past))

-- one of so many processors holds the page
abbrev pub is_held_below : JobView → List Entry → Page → ℕ → Bool
is_held_below j past g zero = false
is_held_below j past g (suc p) = is_among (holds j past p) g || is_held_below j past g p

-- whether some actor holds the page
abbrev pub is_held : JobView → List Entry → Page → Bool
is_held j past g = is_among (listed (builder_holds j past)) g || is_held_below j past g (length j.scripts)
