-- Where the one live copy of a page is, by the entries before a place.
use Rattle.std.specs.Prelude.{ℕ, ◌≡◌, ◌<◌, true, if◌then◌else◌, List, [], ◌∷◌, Option, Some, None, is_some}
use Rattle.sgx_rules.specs.declared.entries.Entry.{Entry}
use Rattle.sgx_rules.specs.declared.entries.Event.{Event}
use Rattle.sgx_rules.specs.declared.entries.Event.TheVariants.{Did}
use Rattle.sgx_rules.specs.declared.entries.Action.TheVariants.{Epa, Create, Add, Ewb, Eld}
use Rattle.sgx_rules.specs.declared.entries.Answer.TheVariants.{Moved}
use Rattle.sgx_types.specs.declared.names.Page.{Page}
use Rattle.sgx_types.specs.declared.names.VaSlot.{VaSlot}
use Rattle.sgx_rules.specs.inner.Enclaves.{is_there}
use Rattle.sgx_types.specs.Pages.{page_at, same_page, secs_page, va_page}
use Rattle.sgx_rules.specs.Frames.{content, stands, vas_made}
use Rattle.sgx_rules.specs.Slots.{version_in}
use Rattle.sgx_rules.specs.Starts.{Start, open_start}

-- a page is in a frame, or outside as the record whose version is in a slot
pub data Copy : Type 0 where
  InFrame : (frame : ℕ) → Copy
  InSlot : (slot : VaSlot) → (version : ℕ) → Copy

abbrev pub in_slot : Option Start → ℕ → Option Copy
in_slot None version = None
in_slot (Some start) version = Some (InSlot start.slot version)

abbrev pub copy_after : Event → ℕ → (ℕ → Option Start) → Page → Option Copy → Option Copy
copy_after (Did (Epa f) answer) vas opened g before = if same_page (va_page vas) g then Some (InFrame f.0) else before
copy_after (Did (Create enclave f base size) answer) vas opened g before =
    if same_page (secs_page enclave) g then Some (InFrame f.0) else before
copy_after (Did (Add enclave number f kind perm init) answer) vas opened g before =
    if same_page (page_at enclave number) g then Some (InFrame f.0) else before
copy_after (Did (Ewb f) (Moved page version tag)) vas opened g before = if same_page page g then in_slot (opened f.0) version else before
copy_after (Did (Eld f) (Moved page version tag)) vas opened g before = if same_page page g then Some (InFrame f.0) else before
copy_after _ vas opened g before = before

-- where the making of a page, its last write-out or its last reload left it
abbrev pub copy : List Entry → Page → Option Copy
copy [] g = None
copy (e ∷ past) g = copy_after e.event (vas_made past) (open_start past) g (copy past g)

-- frames and slots hold the live copies and nothing else: each page that there is has exactly one. The slots of a version array page
-- count wherever it is
pub record OneLiveCopy (past : List Entry) : Type 0 where
  pub some : (g : Page) → is_there past g ≡ true → is_some (copy past g) ≡ true
  pub framed : (n : ℕ) (g : Page) → stands (content past n) g ≡ true → copy past g ≡ Some (InFrame n)
  pub back : (n : ℕ) (g : Page) → copy past g ≡ Some (InFrame n) → stands (content past n) g ≡ true
  pub slotted : (slot : VaSlot) (v : ℕ) (g : Page) → copy past g ≡ Some (InSlot slot v) → version_in past slot ≡ v
  pub filled : (slot : VaSlot) → 0 < version_in past slot → (g : Page) × (copy past g ≡ Some (InSlot slot (version_in past slot)))
  pub alone : (slot : VaSlot) (v w : ℕ) (g h : Page) → copy past g ≡ Some (InSlot slot v) → copy past h ≡ Some (InSlot slot w) → g ≡ h
