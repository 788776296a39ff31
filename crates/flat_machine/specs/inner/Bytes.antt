-- The bytes of a page.
use Rattle.std.specs.Prelude.{ℕ, List, Option, Some, None}
use Rattle.sgx_rules.specs.Flat.{FlatPage}
use Rattle.sgx_types.specs.Layouts.{bytes_of}

-- the bytes of a page that was added, and else what was there before
abbrev pub bytes_in : Option FlatPage → List ℕ → List ℕ
bytes_in None before = before
bytes_in (Some x) before = bytes_of x.words
