-- The driver's tables say what the entries say.
use Rattle.std.specs.Prelude.{ℕ, ◌≡◌, ◌≤◌, false, List, None, length, map, replicate}
use Rattle.sgx_rules.specs.declared.entries.Entry.{Entry}
use Rattle.sgx_types.specs.declared.names.Page.{Page}
use Rattle.job_grammar.specs.Jobs.{JobView, va_pages}
use Rattle.driver_list.specs.declared.ring.Listed as ring
use Rattle.driver_list.specs.declared.page_states.PageState.{PageState}
use Rattle.driver_list.specs.declared.page_states.PageState.TheVariants as states
use Rattle.driver_list.specs.inner.Active.{new_active}
use Rattle.driver_list.specs.inner.Keeping.{kept_at, page_kept}
use Rattle.driver_list.specs.inner.Places.{IsPlaced, total}
use Rattle.driver_list.specs.inner.States.{all_absent, state_of}
use Rattle.driver_slots.specs.inner.Keeper.{new_keeper}
use Rattle.driver_rules.specs.Places.{Absent, Away, Here, Leaving, Loading, Place, place}
use Rattle.driver_rules.specs.Turns.{last_of}
use Rattle.driver_laws.specs.inner.Agrees.{Keeping, Listed, ShowsSlots, listed_by, loaded_by}
use Rattle.driver_laws.specs.inner.Sound.{is_absent}
use Rattle.driver_tables.specs.declared.driver.Driver.{Driver}
use Rattle.driver_tables.specs.inner.Counts.{job_counts}

-- a listed page as the rules see it
abbrev pub listed : ring.Listed → Listed
listed x = record { page = x.page; young = x.young }

-- where a page is by its state; one whose put failed is away too
abbrev pub place_in : PageState → Place
place_in states.Absent = Absent
place_in (states.Here f) = Here f.0
place_in (states.Leaving f) = Leaving f.0
place_in (states.Loading f slot) = Loading f.0 slot
place_in (states.Away slot) = Away slot
place_in (states.Lost slot) = Away slot

-- the tables before a job's first entry
pub record IsNew (j : JobView) (d : Driver) : Type 0 where
  pub active : d.active ≡ new_active (job_counts j)
  pub states : d.states ≡ all_absent (job_counts j)
  pub slots : d.slots ≡ new_keeper (va_pages j)
  pub kept : d.kept ≡ replicate (length j.scripts) None
  pub marks : d.marks ≡ j.marks
  pub cpus : d.cpus ≡ length j.scripts
  pub enclaves : d.enclaves ≡ length j.enclaves
  pub arrays : d.va_pages ≡ va_pages j

-- a driver's tables keep slots as `drivers j` says, and an auditor's as `auditors` says
pub record ShowsTables (k : Keeping) (j : JobView) (d : Driver) (past : List Entry) : Type 0 where
  -- the list with its marks, and where each page is
  pub list : map listed d.active.pages ≡ listed_by past
  pub states : (g : Page) → IsPlaced d.states.counts g → place_in (state_of d.states g) ≡ place past g
  -- a page that was made has its place
  pub placed : (g : Page) → is_absent (place past g) ≡ false → IsPlaced d.states.counts g
  -- which slots are out
  pub slots : ShowsSlots k j d.slots past
  -- a record is kept exactly for the processors that load, of the page that each loads
  pub copies : (p : ℕ) → page_kept (kept_at d.kept p) ≡ loaded_by (last_of past p)
  -- the tables are those of the job's pages and processors
  pub counts : d.states.counts ≡ d.active.counts
  pub of_job : d.active.counts ≡ job_counts j
  pub sized : length d.states.states ≡ total d.states.counts
  pub rooms : length d.kept ≡ d.cpus
  pub marks : d.marks ≡ j.marks
  pub cpus : d.cpus ≡ length j.scripts
  pub few : d.cpus ≤ 16
  pub enclaves : d.enclaves ≡ length j.enclaves
  pub few_enclaves : d.enclaves ≤ 8
  pub arrays : d.va_pages ≡ va_pages j
  pub few_arrays : d.va_pages ≤ 9
