-- Which page is brought back first for a page, by where the driver has it.
use Rattle.std.specs.Prelude.{List}
use Rattle.sgx_rules.specs.declared.entries.Entry.{Entry}
use Rattle.sgx_types.specs.declared.names.Page.{Page}
use Rattle.driver_rules.specs.Places.{place}
use Rattle.driver_rules.specs.Targets.{target_by}

-- the page that is brought back first
abbrev pub target : List Entry → Page → Page
target past g = target_by past g (place past g)
