-- How the pages of a pass stand, as long as each entry is the driver's: those that were taken wait in their frames, each once, and are
-- blocked in their order; a frame whose page is here is not blocked; a page has started to go out only behind its tries.
use Rattle.std.specs.Prelude.{ℕ, ◌≡◌, ◌==◌, ◌≤◌, Bool, true, false, List, [], ◌∷◌, ◌++◌, Some, None, length}
use Rattle.sgx_rules.specs.declared.entries.Entry.{Entry}
use Rattle.sgx_rules.specs.declared.entries.Event.{Event}
use Rattle.sgx_rules.specs.declared.entries.Event.TheVariants.{Did}
use Rattle.sgx_rules.specs.declared.entries.Action.TheVariants.{Block, Ewb, EwbStart}
use Rattle.sgx_types.specs.declared.names.Page.{Page}
use Rattle.sgx_rules.specs.Frames.{is_blocked, is_sealing}
use Rattle.sgx_types.specs.Pages.{is_own_page}
use Rattle.sgx_rules.specs.Starts.{open_start, Start}
use Rattle.driver_rules.specs.Holds.{is_among}
use Rattle.driver_rules.specs.Passes.{Aside, aside, Between, Blocking, Form, IsToGo, NoneAside, Pass, Scan, Sealing, Tries}
use Rattle.driver_rules.specs.Places.{active, Here, Leaving, place}
use Rattle.driver_laws.specs.inner.Sound.{is_write_start}
use Rattle.driver_rules.specs.Passes as goes

-- ---- one page

-- a page that was taken: its frame, whether that is blocked, and that no start of it is open
pub record IsTaken (past : List Entry) (blocked : Bool) (g : Page) : Type 0 where
  pub frame : ℕ
  pub leaving : place past g ≡ Leaving frame
  pub block : is_blocked past frame ≡ blocked
  pub start : open_start past frame ≡ None

-- a page whose write-out has started
pub record IsGoing (past : List Entry) (g : Page) : Type 0 where
  pub frame : ℕ
  pub leaving : place past g ≡ Leaving frame
  pub start : Start
  pub opened : open_start past frame ≡ Some start
  pub write : is_write_start (open_start past frame) ≡ true

-- ---- the pages of a pass

abbrev pub AllWait : List Entry → Bool → List Page → Type 0
AllWait past blocked [] = Unit {0}
AllWait past blocked (g ∷ gs) = IsTaken past blocked g × AllWait past blocked gs

-- no page stands twice
abbrev pub AreApart : List Page → Type 0
AreApart [] = Unit {0}
AreApart (g ∷ gs) = (is_among gs g ≡ false) × AreApart gs

-- a look is due, and there are pages for the looks that are left
pub record IsScanning (past : List Entry) (left : ℕ) (taken : List Page) : Type 0 where
  pub some : 1 ≤ left
  pub enough : left ≤ length (active past)
  pub waiting : AllWait past false taken
  pub apart : AreApart taken

-- a block is due, and the pages before it are blocked
pub record IsBlocking (past : List Entry) (due taken : List Page) : Type 0 where
  pub done : List Page
  pub splits : taken ≡ done ++ due
  pub shut : AllWait past true done
  pub waiting : AllWait past false due
  pub apart : AreApart taken

abbrev pub Stands : List Entry → Page → Form → Type 0
Stands past g Sealing = IsGoing past g
Stands past g _ = IsTaken past true g

pub record IsTrying (past : List Entry) (g : Page) (rest : List Page) (form : Form) : Type 0 where
  pub page : Stands past g form
  pub waiting : AllWait past true rest
  pub apart : AreApart (g ∷ rest)

abbrev pub HasPages : List Entry → Pass → Type 0
HasPages past (Between works) = Unit {0}
HasPages past (Scan left taken) = IsScanning past left taken
HasPages past (Blocking [] taken) = ⊥
HasPages past (Blocking (g ∷ gs) taken) = IsBlocking past (g ∷ gs) taken
HasPages past (Tries g rest form) = IsTrying past g rest form

-- ---- a page that goes out beside the passes

-- it alone of the SECSs and version array pages is leaving. That no page of its enclave, or no start of a slot of it, is there the places
-- tell: these want it here
abbrev pub IsOnly : List Entry → Page → Type 0
IsOnly past g = (is_own_page g ≡ false) × ((h : Page) (f : ℕ) → place past h ≡ Leaving f → is_own_page h ≡ false → h ≡ g)

abbrev pub HasAside : List Entry → Aside → Type 0
HasAside past NoneAside = (g : Page) (f : ℕ) → place past g ≡ Leaving f → is_own_page g ≡ true
HasAside past (IsToGo g) = IsOnly past g × IsTaken past false g
HasAside past (goes.IsGoing g) = IsOnly past g × IsGoing past g

-- ---- all of it

pub record KeepsPages (past : List Entry) (pass : Pass) : Type 0 where
  pub aside : HasAside past (aside past)
  -- a page that is here is not blocked
  pub here : (g : Page) (f : ℕ) → place past g ≡ Here f → is_blocked past f ≡ false
  -- a frame's page is on its way out exactly where a start of a write-out is open
  pub sealing : (n : ℕ) → is_sealing past n ≡ is_write_start (open_start past n)
  pub pages : HasPages past pass

-- an entry that blocks a frame, or by which its page starts to go out or has gone out
abbrev pub touches : Event → ℕ → Bool
touches (Did (Block f) answer) n = f.0 == n
touches (Did (EwbStart f slot) answer) n = f.0 == n
touches (Did (Ewb f) answer) n = f.0 == n
touches _ n = false
