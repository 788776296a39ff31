-- The version array pages that came back, and what rests while one is out.
use Rattle.std.specs.Prelude.{ℕ, ◌≡◌, ◌<◌, ◌≤◌, ◌||◌, Bool, false, if◌then◌else◌, List, [], ◌∷◌, Option, Some, None}
use Rattle.sgx_rules.specs.declared.entries.Action.TheVariants.{Eld, Ewb}
use Rattle.sgx_rules.specs.declared.entries.Answer.TheVariants.{Moved}
use Rattle.sgx_rules.specs.declared.entries.Entry.{Entry}
use Rattle.sgx_rules.specs.declared.entries.Event.{Event}
use Rattle.sgx_rules.specs.declared.entries.Event.TheVariants.{Did}
use Rattle.sgx_types.specs.Pages.{same_page, va_page}
use Rattle.sgx_rules.specs.Frames.{content, vas_made}
use Rattle.sgx_rules.specs.PageBytes.{va_words}
use Rattle.sgx_rules.specs.Slots.{is_va_of, version_in}

abbrev pub comes_back : Event → ℕ → Bool
comes_back (Did (Eld f) (Moved page version tag)) number = same_page page (va_page number)
comes_back _ number = false

-- a version array page of this number was reloaded
abbrev pub came_back : List Entry → ℕ → Bool
came_back [] number = false
came_back (e ∷ past) number = comes_back e.event number || came_back past number

abbrev pub words_out_after : Event → List ℕ → ℕ → Option (List ℕ) → Option (List ℕ)
words_out_after (Did (Ewb f) (Moved page version tag)) now number before = if same_page page (va_page number) then Some now else before
words_out_after (Did (Eld f) (Moved page version tag)) now number before = if same_page page (va_page number) then None else before
words_out_after _ now number before = before

-- the slots with which a version array page last went out, None where it was never out or came back since
abbrev pub words_out : List Entry → ℕ → Option (List ℕ)
words_out [] number = None
words_out (e ∷ past) number = words_out_after e.event (va_words past number) number (words_out past number)

-- a version array page that is out was made, stands in no frame, and has the slots with which it went; and no slot of a page that was not
-- made has a version
pub record ArraysRest (past : List Entry) : Type 0 where
  pub rest : (number : ℕ) (words : List ℕ) → words_out past number ≡ Some words → va_words past number ≡ words
  pub away : (number : ℕ) (words : List ℕ) → words_out past number ≡ Some words → (n : ℕ) → is_va_of (content past n) number ≡ false
  pub below : (number : ℕ) (words : List ℕ) → words_out past number ≡ Some words → number < vas_made past
  pub unmade : (number index : ℕ) → vas_made past ≤ number → version_in past (record { va = number; index = index }) ≡ 0
