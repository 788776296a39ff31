-- What the book keeps of the store's calls: whatever the store answers, and without a word on whether its records were forged.
use Rattle.std.specs.Prelude.{ℕ, ◌≡◌, Bool, true, false, if◌then◌else◌, List, ◌∷◌}
use Rattle.sgx_rules.specs.declared.entries.Action.TheVariants.{Ewb, EldStart}
use Rattle.sgx_rules.specs.declared.entries.Answer.{Answer}
use Rattle.sgx_rules.specs.declared.entries.Answer.TheVariants.{Moved}
use Rattle.sgx_rules.specs.declared.entries.Entry.{Entry}
use Rattle.sgx_rules.specs.declared.entries.Event.{Event}
use Rattle.sgx_rules.specs.declared.entries.Event.TheVariants.{Did}
use Rattle.sgx_types.specs.declared.names.Frame.{Frame}
use Rattle.sgx_types.specs.declared.names.Page.{Page}
use Rattle.sgx_types.specs.declared.names.SlotAt.{SlotAt}
use Rattle.sgx_types.specs.Pages.{same_page}
use Rattle.sgx_rules.specs.Processors.{is_by}
use Rattle.backing_store.specs.Calls.{Call, Put}
use Rattle.driver_list.specs.inner.Keeping.{kept_at, record_kept}
use Rattle.driver_list.specs.inner.Places.{IsPlaced}
use Rattle.driver_list.specs.inner.States.{state_of}
use Rattle.driver_list.specs.declared.page_states.PageState.{PageState}
use Rattle.driver_list.specs.declared.page_states.PageState.TheVariants.{Lost}
use Rattle.driver_rules.specs.Turns.{Loads, last_of}
use Rattle.driver_tables.specs.declared.driver.Driver.{Driver}
use Rattle.history_rules.specs.Calls.{is_lost}
use Rattle.history_rules.specs.Given.{gift, got_last}
use Rattle.history_rules.specs.Stored.{StoreCalls}

-- the tables have a page as lost
abbrev pub is_lost_state : PageState → Bool
is_lost_state (Lost slot) = true
is_lost_state state = false

pub record TellsStore (key : List ℕ) (past : List Entry) (calls : List Call) (d : Driver) : Type 0 where
  -- the calls are those of the entries, and each entry tells what is so of the record of its call
  pub store : StoreCalls key past calls
  -- for a processor that loads a page the record is kept that the store gave for that load
  pub gifts : (p n : ℕ) (page : Page) → last_of past p ≡ Loads n page → record_kept (kept_at d.kept p) ≡ gift past calls n
  -- a page is lost by the tables exactly where its last put failed
  pub lost : (g : Page) → IsPlaced d.states.counts g → is_lost_state (state_of d.states g) ≡ is_lost calls g

-- ---- one entry more

-- whether a page is lost behind an entry, by the call with which it comes
abbrev pub lost_by : Event → List Call → Page → Bool → Bool
lost_by (Did (Ewb f) (Moved page version tag)) (Put h rec failed ∷ calls) g before = if same_page page g then failed else before
lost_by _ calls g before = before

-- the tables keep the record that a load's start was given, and those of other processors; and a page is lost as its put failed
pub record StoreMoves (e : Entry) (calls : List Call) (d d' : Driver) : Type 0 where
  pub counts : d'.states.counts ≡ d.states.counts
  pub given : (p : ℕ) (f : Frame) (page : Page) (slot : SlotAt) (answer : Answer) → is_by p e.actor ≡ true
      → e.event ≡ Did (EldStart f page slot) answer → record_kept (kept_at d'.kept p) ≡ got_last calls
  pub others : (p : ℕ) → is_by p e.actor ≡ false → record_kept (kept_at d'.kept p) ≡ record_kept (kept_at d.kept p)
  pub lost : (g : Page) → IsPlaced d.states.counts g
      → is_lost_state (state_of d'.states g) ≡ lost_by e.event calls g (is_lost_state (state_of d.states g))
