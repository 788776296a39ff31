-- Which pages are REG pages, kept while a trace is gone along.
use Rattle.std.specs.Prelude.{◌≡◌, List}
use Rattle.sgx_rules.specs.declared.entries.Entry.{Entry}
use Rattle.sgx_types.specs.declared.names.Page.{Page}
use Rattle.sgx_rules.specs.Frames.{added}
use Rattle.least_reloads.specs.Plans.{has}
use Rattle.command_least.specs.Accesses.{is_reg_page}

-- these are the pages that were added as REG pages
abbrev pub AreRegs : List Entry → List Page → Type 0
AreRegs past regs = (g : Page) → has regs g ≡ is_reg_page (added past g)
