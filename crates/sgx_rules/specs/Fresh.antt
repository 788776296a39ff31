-- The rule Fresh: each reload takes the version last written out, and versions rise.
use Rattle.std.specs.Prelude.{ℕ, ◌≡◌, if◌then◌else◌, List, [], ◌∷◌, Option, Some, None}
use Rattle.std.specs.Option.{IsSomeAnd}
use Rattle.sgx_rules.specs.declared.entries.Action.TheVariants.{Ewb, Eld}
use Rattle.sgx_rules.specs.declared.entries.Answer.{Answer}
use Rattle.sgx_rules.specs.declared.entries.Answer.TheVariants as answers
use Rattle.sgx_rules.specs.declared.entries.Entry.{Entry}
use Rattle.sgx_rules.specs.declared.entries.Event.{Event}
use Rattle.sgx_rules.specs.declared.entries.Event.TheVariants.{Did}
use Rattle.sgx_types.specs.declared.names.Page.{Page}
use Rattle.sgx_types.specs.Pages.{same_page}
use Rattle.sgx_rules.specs.Rules.{RisingRule}
use Rattle.sgx_rules.specs.Slots.{version_in}
use Rattle.sgx_rules.specs.Starts.{open_start}

-- the version and the tag under which a page went out
pub record Out : Type 0 where
  pub version : ℕ
  pub tag : List ℕ

abbrev pub out_after : Event → Page → Option Out → Option Out
out_after (Did (Ewb f) (answers.Moved page version tag)) g before =
    if same_page page g then Some (record { version = version; tag = tag }) else before
out_after (Did (Eld f) (answers.Moved page version tag)) g before = if same_page page g then None else before
out_after _ g before = before

-- how a page last went out, None where it was never out or came back since
abbrev pub last_out : List Entry → Page → Option Out
last_out [] g = None
last_out (e ∷ past) g = out_after e.event g (last_out past g)

-- a reload into a frame takes the version and the tag of the page's last write-out, and finds that version in its slot
pub record IsLastOut (past : List Entry) (n : ℕ) (page : Page) (version : ℕ) (tag : List ℕ) : Type 0 where
  pub last : last_out past page ≡ Some (record { version = version; tag = tag })
  pub slot : IsSomeAnd (open_start past n) (λ start. version_in past start.slot ≡ version)

abbrev pub ReloadRule : List Entry → Entry → Type 0
ReloadRule past e = by_event e.event
  where
    by_answer : ℕ → Answer → Type 0
    by_answer n (answers.Moved page version tag) = IsLastOut past n page version tag
    by_answer n _ = ⊥

    by_event : Event → Type 0
    by_event (Did (Eld f) answer) = by_answer f.0 answer
    by_event _ = Unit {0}

pub record FreshRule (first : ℕ) (past : List Entry) (e : Entry) : Type 0 where
  pub rising : RisingRule first past e
  pub reload : ReloadRule past e
