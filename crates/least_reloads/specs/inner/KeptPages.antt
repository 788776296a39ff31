-- What a set of pages is kept as.
use Rattle.std.specs.Prelude.{List}
use Rattle.sgx_types.specs.declared.names.Page.{Page}
use Rattle.least_reloads.specs.declared.page_set.PageSet.TheInside.{Inside}

-- the pages that are kept
abbrev pub pages_of : Inside → List Page
pages_of set = set.pages.keys
