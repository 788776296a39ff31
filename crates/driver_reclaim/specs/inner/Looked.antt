-- What a look asks of the store.
use Rattle.std.specs.Prelude.{List, Option, false, true}
use Rattle.sgx_rules.specs.declared.entries.Look.{Look}
use Rattle.sgx_rules.specs.declared.entries.Look.TheVariants as looks
use Rattle.sgx_types.specs.declared.names.Page.{Page}
use Rattle.backing_store.specs.Calls.{Call, Room}
use Rattle.backing_store.specs.inner.Calls.{with_call}

-- room is asked for a page that is taken, and for one that is not taken for want of it
abbrev pub told_look : Page → Look → Option (List Call) → Option (List Call)
told_look page looks.Taken told = with_call (Room page false) told
told_look page looks.NoRoom told = with_call (Room page true) told
told_look page _ told = told
