-- Pages by other names.
use Rattle.std.specs.Prelude.{ℕ, ◌≡◌, ◌<◌, true, List, Option, Some, map}
use Rattle.sgx_types.specs.declared.names.Page.{Page}
use Rattle.sgx_types.specs.Pages.{page_at}
use Rattle.least_reloads.specs.Plans.{has}
use Rattle.command_least.specs.declared.accesses.Access.{Access}

-- another name for each page, from which the page can be told
pub record Renaming : Type 0 where
  pub to : Page → Page
  pub back : Page → Page
  pub there : (g : Page) → back (to g) ≡ g
  pub here : (g : Page) → to (back g) ≡ g

-- the name of this number
abbrev pub name : ℕ → Page
name n = page_at 0 n

-- the pages are these by other names
pub record AreOtherNames (accesses pages : List Page) : Type 0 where
  pub by : Renaming
  pub same : pages ≡ map by.to accesses

-- .. and the names that were given are those of the numbers below a count, by which they are found
pub record AreNamed (accesses pages : List Page) (look : Page → Option ℕ) (count : ℕ) : Type 0 where
  pub by : Renaming
  pub same : pages ≡ map by.to accesses
  pub named : (g : Page) (n : ℕ) → look g ≡ Some n → by.to g ≡ name n
  pub below : (g : Page) (n : ℕ) → look g ≡ Some n → n < count
  pub all : (g : Page) → has accesses g ≡ true → (n : ℕ) × (look g ≡ Some n)

-- the page as an access
abbrev pub access_of : Page → Access
access_of g = record { enclave = g.enclave; number = g.number }
