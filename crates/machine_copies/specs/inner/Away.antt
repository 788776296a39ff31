-- What is so of pages that are away: their bytes rest, and no page of an enclave is there without its SECS.
use Rattle.std.specs.Prelude.{ℕ, ◌≡◌, ◌<◌, Bool, true, false, if◌then◌else◌, List, ◌∷◌, Option, Some, None}
use Rattle.sgx_rules.specs.declared.entries.Entry.{Entry}
use Rattle.sgx_types.specs.declared.names.Page.{Page}
use Rattle.sgx_types.specs.declared.names.VaSlot.{VaSlot}
use Rattle.sgx_rules.specs.declared.entries.Action.TheVariants.{Eld, Ewb}
use Rattle.sgx_rules.specs.declared.entries.Answer.{Answer}
use Rattle.sgx_rules.specs.declared.entries.Event.{Event}
use Rattle.sgx_rules.specs.declared.entries.Event.TheVariants.{Did}
use Rattle.sgx_rules.specs.Ends.{EndsOut, IsBack}
use Rattle.sgx_types.specs.Pages.{is_own_page, is_va_page, same_page, va_page}
use Rattle.sgx_rules.specs.Frames.{Content, IsLoading, IsVa, content, is_child, is_sealing, secs_frame}
use Rattle.sgx_rules.specs.PageBytes.{bytes_at, va_words}
use Rattle.machine_copies.specs.inner.Copies.{InSlot, copy}

-- ---- the SECS of pages that are there

-- the SECS of an enclave is in one of so many frames, and not on its way out
pub record SecsIsIn (frames : ℕ) (held : ℕ → Content) (sealing : ℕ → Bool) (e : ℕ) : Type 0 where
  pub frame : ℕ
  pub there : secs_frame frames held e ≡ Some frame
  pub stays : sealing frame ≡ false

-- where a frame holds or loads a TCS or REG page of an enclave, its SECS is in
abbrev pub SecsCovers : ℕ → (ℕ → Content) → (ℕ → Bool) → Type 0
SecsCovers frames held sealing = (e m : ℕ) → is_child (held m) e ≡ true → SecsIsIn frames held sealing e

-- ---- version array pages

-- the version array page that a frame holds or waits for
abbrev pub array_in : Content → Option ℕ
array_in (IsVa number) = Some number
array_in (IsLoading page) = if is_va_page page then Some page.number else None
array_in _ = None

-- each that a frame holds or waits for was made, and one frame at most holds it
pub record ArraysApart (made : ℕ) (held : ℕ → Content) : Type 0 where
  pub below : (n number : ℕ) → array_in (held n) ≡ Some number → number < made
  pub once : (m n number : ℕ) → held m ≡ IsVa number → held n ≡ IsVa number → m ≡ n

-- the commits of an entry end open starts, as a machine's do whatever records are brought: that of a write-out of what its frame holds,
-- which was on its way out, and that of a load of the page for which its frame waits
pub record EndsRightOut (past : List Entry) (n : ℕ) (answer : Answer) : Type 0 where
  pub ends : EndsOut past n answer
  pub leaves : is_sealing past n ≡ true
  pub array : (number : ℕ) → same_page ends.page (va_page number) ≡ true → content past n ≡ IsVa number

pub record EndsRightIn (past : List Entry) (n : ℕ) (answer : Answer) : Type 0 where
  pub back : IsBack past n answer
  pub waits : content past n ≡ IsLoading back.page

abbrev pub EndsRight : List Entry → Event → Type 0
EndsRight past (Did (Ewb f) answer) = EndsRightOut past f.0 answer
EndsRight past (Did (Eld f) answer) = EndsRightIn past f.0 answer
EndsRight past _ = Unit {0}

-- ---- bytes

-- a SECS or a version array page that is out after an entry has the bytes that it had before it, and a version array page its slots
pub record BytesRest (past : List Entry) (e : Entry) : Type 0 where
  pub bytes : (g : Page) (slot : VaSlot) (v : ℕ) → is_own_page g ≡ false → copy (e ∷ past) g ≡ Some (InSlot slot v)
      → bytes_at (e ∷ past) g ≡ bytes_at past g
  pub slots : (number : ℕ) (slot : VaSlot) (v : ℕ) → copy (e ∷ past) (va_page number) ≡ Some (InSlot slot v)
      → va_words (e ∷ past) number ≡ va_words past number
