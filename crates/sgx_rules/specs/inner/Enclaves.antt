-- The enclaves by the entries before a place: which were created and initialised, which pages there are, by which TCS pages processors are
-- inside, and that flat memory has them.
use Rattle.std.specs.Prelude.{ℕ, ◌≡◌, ◌==◌, Bool, false, if◌then◌else◌, List, [], ◌∷◌, Option, Some, None}
use Rattle.std.specs.Prelude.{is_some, nat_lt}
use Rattle.std.specs.Option.{IsSomeAnd}
use Rattle.sgx_rules.specs.declared.entries.Entry.{Entry}
use Rattle.sgx_rules.specs.declared.entries.Event.{Event}
use Rattle.sgx_rules.specs.declared.entries.Event.TheVariants.{Did}
use Rattle.sgx_rules.specs.declared.entries.Action.TheVariants.{Create, Init}
use Rattle.sgx_types.specs.declared.names.Page.{Page}
use Rattle.sgx_rules.specs.Flat.{FlatEnclave, added_as, flat, as_initialised}
use Rattle.sgx_types.specs.Pages.{is_secs_page, is_va_page, page_at}
use Rattle.sgx_rules.specs.Frames.{added, vas_made}
use Rattle.sgx_rules.specs.Processors.{stay}

abbrev pub created_by : Event → ℕ → Option FlatEnclave → Option FlatEnclave
created_by (Did (Create enclave f base size) answer) n before =
    if n == enclave then Some (record { base = base; size = size; is_init = false }) else before
created_by (Did (Init enclave expect) answer) n before = if n == enclave then as_initialised before else before
created_by _ n before = before

-- the range of an enclave that was created, and whether it was initialised
abbrev pub created : List Entry → ℕ → Option FlatEnclave
created [] n = None
created (e ∷ past) n = created_by e.event n (created past n)

-- whether there is such a page: a version array page that was made, the SECS of an enclave that was created, or a page that was
-- added
abbrev pub is_there : List Entry → Page → Bool
is_there past g =
    if is_va_page g then nat_lt g.number (vas_made past)
    else if is_secs_page g then is_some (created past g.enclave)
    else is_some (added past g)

-- a processor is inside by this TCS page
pub record IsTaken (past : List Entry) (g : Page) : Type 0 where
  pub cpu : ℕ
  pub by : IsSomeAnd (stay past cpu) (λ t. page_at t.seat.enclave t.seat.tcs ≡ g)

-- flat memory has each enclave and page as the entries made it
pub record EnclavesAreFlat (past : List Entry) : Type 0 where
  pub enclaves : (n : ℕ) → created past n ≡ (flat past).enclaves n
  pub pages : (g : Page) → added past g ≡ added_as ((flat past).pages g)
