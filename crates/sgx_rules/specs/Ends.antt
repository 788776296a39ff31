-- The ends of starts, by the entries before a place: which page a done commit names, and when a load may be refused.
use Rattle.std.specs.Prelude.{ℕ, ◌≡◌, List, Some, None}
use Rattle.sgx_rules.specs.declared.entries.Answer.{Answer}
use Rattle.sgx_rules.specs.declared.entries.Answer.TheVariants as answers
use Rattle.sgx_rules.specs.declared.entries.Entry.{Entry}
use Rattle.sgx_types.specs.declared.names.Page.{Page}
use Rattle.sgx_rules.specs.declared.refusals.Refusal.{Refusal}
use Rattle.sgx_rules.specs.declared.refusals.Refusal.TheVariants as why
use Rattle.sgx_rules.specs.Frames.{content, page_there}
use Rattle.sgx_rules.specs.PageBytes.{header_at}
use Rattle.sgx_rules.specs.Starts.{Start, open_start}

-- a done `ewb` ends the start of the page that its frame holds, and names that page
pub record EndsOut (past : List Entry) (n : ℕ) (answer : Answer) : Type 0 where
  pub page : Page
  pub held : page_there (content past n) ≡ Some page
  pub start : Start
  pub opened : open_start past n ≡ Some start
  pub writes : start.loads ≡ None
  pub version : ℕ
  pub tag : List ℕ
  pub told : answer ≡ answers.Moved page version tag

-- an `eld` ends the start of a load of this page
pub record EndsIn (past : List Entry) (n : ℕ) (page : Page) : Type 0 where
  pub start : Start
  pub opened : open_start past n ≡ Some start
  pub loads : start.loads ≡ Some page

-- .. and names the page where it is done
pub record IsBack (past : List Entry) (n : ℕ) (answer : Answer) : Type 0 where
  pub page : Page
  pub ends : EndsIn past n page
  pub version : ℕ
  pub tag : List ℕ
  pub told : answer ≡ answers.Moved page version tag

-- a record does not fit: its tag is not the one that is computed of it, or its header is not the page's
abbrev pub DoesNotFit : List Entry → Page → Refusal → Type 0
DoesNotFit past g (why.MacFail given computed) = given ≡ computed → ⊥
DoesNotFit past g (why.BadHeader enclave address flags) =
    header_at past g ≡ Some (record { enclave = enclave; address = address; flags = flags }) → ⊥
DoesNotFit past g _ = ⊥

-- an `eld` that is refused ends the start of a load whose record does not fit
pub record IsNotBack (past : List Entry) (n : ℕ) (refusal : Refusal) : Type 0 where
  pub page : Page
  pub ends : EndsIn past n page
  pub unfit : DoesNotFit past page refusal
