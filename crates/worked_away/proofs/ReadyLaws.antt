-- The entries that the traces share keep the rules.
use Rattle.std.proofs.Common.{◌≡◌, ℕ, Some, None, refl, arith, List}
use lib.Count.{ones}
use Rattle.sgx_types.specs.Counts.{any_below, count_below, least_below}
use Rattle.sgx_rules.specs.declared.entries.Entry.{Entry}
use Rattle.sgx_rules.specs.declared.entries.Answer.TheVariants.{Moved}
use Rattle.sgx_types.specs.declared.names.Page.{Page}
use Rattle.sgx_rules.specs.Ends.{EndsOut, IsBack}
use Rattle.sgx_rules.specs.Frames.{content, page_there}
use Rattle.sgx_rules.specs.Rules.{Along, EvictRule, RefusalRule}
use Rattle.sgx_rules.specs.Starts.{Start, open_start}
use Rattle.worked_away.specs.Machine.{making, ready, some_tag}

pub ready_table : Along (RefusalRule making) ready
unfolding any_below count_below least_below ones
ready_table = search arith

pub ready_drained : Along EvictRule ready
ready_drained = search

-- the end of a write-out
pub ends_out : (past : List Entry) (n : ℕ) (page : Page) (version : ℕ) (start : Start) → page_there (content past n) ≡ Some page
    → open_start past n ≡ Some start → start.loads ≡ None → EndsOut past n (Moved page version (some_tag version))
ends_out past n page version start held opened writes = record {
  page = page;
  held = held;
  start = start;
  opened = opened;
  writes = writes;
  version = version;
  tag = some_tag version;
  told = refl;
}

-- .. and of a load
pub is_back : (past : List Entry) (n : ℕ) (page : Page) (version : ℕ) (start : Start) → open_start past n ≡ Some start
    → start.loads ≡ Some page → IsBack past n (Moved page version (some_tag version))
is_back past n page version start opened loads = record {
  page = page;
  ends = record { start = start; opened = opened; loads = loads };
  version = version;
  tag = some_tag version;
  told = refl;
}
